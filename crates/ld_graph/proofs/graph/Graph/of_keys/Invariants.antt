use Rattle.ld_graph.proofs.Names.{◌*◌, length}
use Rattle.ld_graph.specs.Inside.TakingOver.{IsTakenOver}
use Rattle.ld_graph.proofs.graph.Graph.of_keys.Given as goal

-- the dependencies from the keys before this place have been taken over
abbrev pub invariant-loop-place : goal.invariant-loop-place
invariant-loop-place l = IsTakenOver l.facts l.graph.facts l.keys (l.place * (length l.keys * 4))
