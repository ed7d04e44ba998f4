use Rattle.ld_text.proofs.Names.{◌++◌, ◌≡◌, flat_map, inversion_line, string_bytes, take}
use Rattle.ld_text.proofs.report.ReportView.add_inversions.Given as goal

-- the lines so far
abbrev pub invariant-loop-inversion : goal.invariant-loop-inversion
invariant-loop-inversion l = string_bytes l.text ≡ string_bytes l.initial.text ++ flat_map (λ x. inversion_line l.self.names.now.names x.0 x.1.0 x.1.1) (take l.inversion-index l.inversions)
