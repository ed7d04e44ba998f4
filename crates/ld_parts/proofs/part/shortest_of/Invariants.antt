use Rattle.ld_parts.proofs.Names.{◌<◌, Arrow, HasFact, IfSome, IsNone, IsShortestOfFirst, OnCircle, Part, get_or, ℕ}
use Rattle.ld_parts.proofs.part.shortest_of.Given as goal

abbrev pub invariant-loop-part : goal.invariant-loop-part
invariant-loop-part l = record {
  none : IsNone l.shortest → (k : ℕ) (part : Part) → k < l.part-index →
      (d : Arrow) → ¬ OnCircle (HasFact (get_or l.parts k part).graph.facts) d;
  some : IfSome l.shortest (IsShortestOfFirst l.parts l.part-index);
}
