use Rattle.ld_graph.proofs.Names.{◌≤◌, AreSteps, length, ℕ}
use Rattle.ld_graph.proofs.search.Search.round.Given as goal

abbrev pub invariant-loop-i : goal.invariant-loop-i
invariant-loop-i l = record {
  steps : (start n : ℕ) → AreSteps l.facts l.within l.goal start n l.first l.end l.first l.initial.self →
      AreSteps l.facts l.within l.goal start n l.first l.end l.i l.self;
  longer : length l.initial.self.steps ≤ length l.self.steps;
}
