use Rattle.ld_parts.proofs.Names.{◌↔◌, ◌≤◌, All, Arrow, FactParts, HasFact, IfSome, IfSome_then, IsNone, IsShortestCircle, IsShortestOfFirst, OnCircle, length, none_of, subst}
use Rattle.ld_parts.proofs.Parts.{no_circle, on_circle_parts, shortest_few, shortest_of_parts}
use Rattle.ld_parts.proofs.parted_graph.PartedGraph.shortest_circle.Goals as goal

first : (c : goal.After-shortest_of) → IfSome c.shortest_of.result (IsShortestOfFirst c.self.inside.parts.items (length c.self.inside.parts.items))
first c = subst (λ parts. IfSome c.shortest_of.result (IsShortestOfFirst parts (length parts))) c.deref.ensures.value c.shortest_of.ensures.some

pub returns-clause-none : goal.returns-clause-none
returns-clause-none c =
    subst (λ v. IsNone c.shortest_of.result ↔ ((d : Arrow) → ¬ OnCircle (HasFact v) d)) c.self.view_is (
      (λ h d on. on_circle_parts c.self.inside.facts c.self.inside.parts.items c.self.inside.homes.items c.self.invariant d on
          (subst (All (λ part. (e : Arrow) → ¬ OnCircle (HasFact part.graph.facts) e)) c.deref.ensures.value (c.shortest_of.ensures.none h))),
      (λ none. none_of c.shortest_of.result (IsShortestOfFirst c.self.inside.parts.items (length c.self.inside.parts.items)) (first c)
          (λ circle is. no_circle (HasFact c.self.inside.facts) none circle (shortest_of_parts c.self.inside.facts c.self.inside.parts.items c.self.inside.homes.items c.self.invariant circle is).closed)),
    )

pub returns-clause-some : goal.returns-clause-some
returns-clause-some c =
    subst (λ v. IfSome c.shortest_of.result (IsShortestCircle (HasFact v))) c.self.view_is
    (IfSome_then c.shortest_of.result (first c) (shortest_of_parts c.self.inside.facts c.self.inside.parts.items c.self.inside.homes.items c.self.invariant))

pub returns-clause-few : goal.returns-clause-few
returns-clause-few c =
    subst (λ (v : FactParts). IfSome c.shortest_of.result (λ circle. length circle ≤ v.keys)) c.self.view_is
    (IfSome_then c.shortest_of.result (first c) (shortest_few c.self.inside.facts c.self.inside.parts.items c.self.inside.homes.items c.self.invariant))
