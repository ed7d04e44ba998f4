use Rattle.ld_text.proofs.Names.{◌++◌, ◌≡◌, double_line, flat_map, string_bytes, take}
use Rattle.ld_text.proofs.report.ReportView.add_doubles.Given as goal

-- the lines so far
abbrev pub invariant-loop-double : goal.invariant-loop-double
invariant-loop-double l = string_bytes l.text ≡ string_bytes l.initial.text ++ flat_map (λ x. double_line l.self.names.now.names x.0 x.1) (take l.double-index l.doubles)
