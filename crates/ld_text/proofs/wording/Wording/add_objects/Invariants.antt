use Rattle.ld_text.proofs.Names.{◌++◌, ◌≡◌, finding_line, flat_map, take}
use Rattle.ld_text.proofs.wording.Wording.add_objects.Given as goal

-- the lines so far
abbrev pub invariant-loop-finding : goal.invariant-loop-finding
invariant-loop-finding l = l.text.items ≡ l.initial.text.items ++ flat_map (finding_line l.self) (take l.finding-index l.findings)
