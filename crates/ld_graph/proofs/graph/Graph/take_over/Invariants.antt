use Rattle.ld_graph.specs.Inside.TakingOver.{IsTakenOver}
use Rattle.ld_graph.proofs.graph.Graph.take_over.Given as goal

-- those with numbers below n have been taken over
abbrev pub invariant-loop-n : goal.invariant-loop-n
invariant-loop-n l = IsTakenOver l.fn.facts l.self.facts l.fn.keys l.n
