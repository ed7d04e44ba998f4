use Rattle.ld_graph.proofs.Names.{◌<◌, HasFact, IsDoubleBy, Kind, arrow, kind_number}
use Rattle.ld_graph.proofs.graph.Graph.double_forms.Given as goal

-- none of the links so far
abbrev pub invariant-loop-n : goal.invariant-loop-n
invariant-loop-n l = (kind : Kind) → kind_number kind < l.n →
    ¬ IsDoubleBy (HasFact l.self.facts) l.irq l.key (arrow l.key l.key kind)
