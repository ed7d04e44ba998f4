use Rattle.ld_graph.proofs.Names.{◌-◌, ◌<◌, ◌≤◌, AreSteps, arrival, length}
use Rattle.ld_facts.specs.Inside.Rows.{arrow_of}
use Rattle.ld_graph.proofs.search.Search.find.Given as goal

abbrev pub invariant-loop-length : goal.invariant-loop-length
invariant-loop-length l = record {
  steps : AreSteps l.facts l.within l.goal (arrival (arrow_of l.fn.start)) (l.length - 1) l.first (length l.self.steps) l.first l.self;
  order : l.first ≤ length l.self.steps;
  some : 0 < length l.self.steps;
}
