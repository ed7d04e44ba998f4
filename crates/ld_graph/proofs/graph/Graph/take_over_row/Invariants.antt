use Rattle.ld_graph.proofs.Names.{◌*◌, ◌+◌, length}
use Rattle.ld_graph.specs.Inside.TakingOver.{IsTakenOver}
use Rattle.ld_graph.proofs.graph.Graph.take_over_row.Given as goal

-- the dependencies to the keys before that place have been taken over
abbrev pub invariant-loop-other : goal.invariant-loop-other
invariant-loop-other l = IsTakenOver l.facts l.self.facts l.keys (l.fn.place * (length l.keys * 4) + l.other * 4)
