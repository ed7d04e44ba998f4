use Rattle.ld_graph.proofs.Names.{◌+◌, ◌<◌, ◌≡◌, ◌≤◌, HasFact, IfSome, IsCircle, IsNone, IsTrue, has_bit, length, ℕ}
use Rattle.ld_graph.proofs.Nearest.{LeastDone}
use Rattle.ld_graph.proofs.graph.Graph.shortest_circle.Given as goal

abbrev pub invariant-loop-place : goal.invariant-loop-place
invariant-loop-place l = record {
  least : LeastDone l.self.facts l.done l.bound;
  all_done : (q : ℕ) → q < l.place → IsTrue (has_bit l.done q);
  none : IsNone l.shortest → l.bound ≡ l.self.facts.keys + 1;
  some : IfSome l.shortest (λ circle. IsCircle (HasFact l.self.facts) circle × (length circle ≡ l.bound));
  few : l.bound ≤ l.self.facts.keys + 1;
}
