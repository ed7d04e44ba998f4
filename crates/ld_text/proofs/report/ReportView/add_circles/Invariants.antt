use Rattle.ld_text.proofs.Names.{◌++◌, ◌≡◌, circle_line, flat_map, string_bytes, take}
use Rattle.ld_text.proofs.report.ReportView.add_circles.Given as goal

-- the lines so far
abbrev pub invariant-loop-d : goal.invariant-loop-d
invariant-loop-d l = string_bytes l.text ≡ string_bytes l.initial.text ++ flat_map (circle_line l.self.names.now.names) (take l.d-index l.circles)
