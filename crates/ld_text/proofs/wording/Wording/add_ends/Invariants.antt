use Rattle.ld_text.proofs.Names.{◌++◌, ◌≡◌, flat_map, take}
use Rattle.ld_text.specs.Verdicts.{end_line}
use Rattle.ld_text.proofs.wording.Wording.add_ends.Given as goal

-- the lines so far
abbrev pub invariant-loop-end : goal.invariant-loop-end
invariant-loop-end l = l.text.items ≡ l.initial.text.items ++ flat_map (end_line l.self) (take l.end-index l.ends)
