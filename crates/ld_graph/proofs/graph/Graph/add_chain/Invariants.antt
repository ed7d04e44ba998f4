use Rattle.ld_graph.proofs.Names.{◌≡◌, Grown, HasFact, IsClean, IsFalse}
use Rattle.ld_graph.proofs.graph.Graph.add_chain.Given as goal

abbrev pub invariant-loop-n : goal.invariant-loop-n
invariant-loop-n l = record {
  grown : Grown l.initial.self.facts l.self.facts l.chain l.n l.fresh;
  known : IsFalse l.fresh → l.self ≡ l.initial.self;
  not_clean : ¬ IsClean (HasFact l.initial.self.facts) → l.self.searched ≡ l.initial.self.searched;
}
