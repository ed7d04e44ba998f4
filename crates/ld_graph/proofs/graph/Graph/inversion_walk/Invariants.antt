use Rattle.ld_graph.proofs.Names.{◌*◌, ◌+◌, ◌≡◌, ◌≤◌, DependenciesOf, HasFact, IfSome, IsLink, IsNone, LeadsRound, length, link_by}
use Rattle.ld_graph.proofs.Inversions.{LeastLinks}
use Rattle.ld_graph.proofs.graph.Graph.inversion_walk.Given as goal

-- no walk back to a link so far is shorter than the bound, and the one that was found is as long
abbrev pub invariant-loop-n : goal.invariant-loop-n
invariant-loop-n l = record {
  least : LeastLinks (HasFact l.self.facts) l.irq l.a l.b l.n l.bound;
  none : IsNone l.shortest → l.bound ≡ 2 * l.self.facts.keys + 1;
  some : IfSome l.shortest (λ found. IsLink (HasFact l.self.facts) l.irq (link_by l.b l.a found.enabled_read found.used_read) ×
      LeadsRound (DependenciesOf (HasFact l.self.facts)) (link_by l.b l.a found.enabled_read found.used_read) found.walk ×
      (length found.walk ≡ l.bound) × (l.bound ≤ 2 * l.self.facts.keys));
  few : l.bound ≤ 2 * l.self.facts.keys + 1;
}
