use Rattle.ld_parts.proofs.Names.{GRAPH_KEYS, HasFact, cases_lt, inl, inr, slice_index}
use Rattle.ld_parts.proofs.OneRank.{one_rank-fits}
use Rattle.ld_parts.proofs.parted_graph.PartedGraph.new.Goals as goal

pub returns-clause-tangled : goal.returns-clause-tangled
returns-clause-tangled c = λ tangled. elim (cases_lt GRAPH_KEYS c.args.facts.keys) [
  | inl many ↦ many
  | inr few ↦ absurd (one_rank-fits (HasFact c.args.facts) (slice_index c.in_ok-ranks.ranks) c.args.facts.keys few (c.in_ok-ranks.ensures few) (c.by_ranks.ensures.tangled tangled))
]
