use Rattle.ld_graph.proofs.Names.{◌*◌, ◌-◌, ◌≤◌, GRAPH_KEYS}
use Rattle.ld_graph.proofs.Scanning.{Scans}
use Rattle.ld_graph.proofs.search.Search.expand.Given as goal

abbrev pub invariant-loop-dependency : goal.invariant-loop-dependency
invariant-loop-dependency l = record {
  scans : Scans l.facts l.within l.goal l.i l.from l.n l.initial.self l.self;
  few : l.n ≤ GRAPH_KEYS * 4;
}

abbrev pub decreases-loop-dependency : goal.decreases-loop-dependency
decreases-loop-dependency l = GRAPH_KEYS * 4 - l.n
