use Rattle.ld_graph.proofs.Names.{◌≡◌, arrow_at, forwards, map, take}
use Rattle.ld_graph.proofs.walk.Walk.by_keys.Given as goal

abbrev pub invariant-loop-i : goal.invariant-loop-i
invariant-loop-i l = l.walk ≡ map (arrow_at l.keys) (forwards (take l.i l.self-inside.backwards.items))
