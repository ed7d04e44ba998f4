-- Two keys in the graph that has both.
use Rattle.std.specs.Prelude.{◌≤◌, ◌↔◌, ℕ, Bool, List, map, Option, Some, None, IfSome}
use Rattle.std.specs.Borrow.{Bor}
use Rattle.ld_trace.specs.declared.event.Irq.{Irq}
use Rattle.ld_task.specs.declared.kind.Kind.{Kind}
use Rattle.ld_facts.specs.Arrows.{Arrow, arrow}
use Rattle.ld_facts.specs.FactBits.{FactParts, HasFact}
use Rattle.ld_facts.specs.Renumbered.{arrow_at}
use Rattle.ld_graph.specs.Links.{InInversion, IsDouble, IsDoubleBy, IsInversion, IsShortestInversion, link_by}
use Rattle.ld_graph.specs.Walks.{IsShortestFrom, OnCircle}
use Rattle.ld_parts.specs.Inside.Parts.{AreKeyNumbers}
use Rattle.ld_parts.specs.declared.pair.Pair.{Pair}
use Rattle.ld_parts.specs.declared.settled.Graphs.{Graphs}
use Rattle.ld_parts.specs.declared.settled.Graphs.TheVariants.{One, ByRank}

-- the facts of the graph, or of those by rank
abbrev pub facts_in : Graphs → FactParts
facts_in (One graph) = graph.facts
facts_in (ByRank graph) = graph

-- a walk with the keys of these numbers, or with the numbers themselves
abbrev pub renumbered_by : Option (Bor (List ℕ)) → List Arrow → List Arrow
renumbered_by None walk = walk
renumbered_by (Some keys) walk = map (arrow_at keys.now) walk

-- what is found between two numbers in a graph is what is found between two keys among the facts
pub record IsPair (facts : FactParts) (a b : ℕ) (pair : Pair) : Type 0 where
  pub few : pair.graph.now.facts.keys ≤ facts.keys
  pub numbers : IfSome pair.keys (λ keys. AreKeyNumbers keys.now)
  pub on_circle : (kind : Kind) →
      OnCircle (HasFact facts) (arrow a b kind) ↔ OnCircle (HasFact pair.graph.now.facts) (arrow pair.a pair.b kind)
  pub shortest_from : (kind : Kind) (walk : List Arrow) →
      IsShortestFrom (HasFact pair.graph.now.facts) (arrow pair.a pair.b kind) walk →
      IsShortestFrom (HasFact facts) (arrow a b kind) (renumbered_by pair.keys walk)
  pub double : (irq : Irq) → IsDouble (HasFact facts) irq a ↔ IsDouble (HasFact pair.graph.now.facts) irq pair.a
  pub double_by : (irq : Irq) (enabled_read used_read : Bool) →
      IsDoubleBy (HasFact pair.graph.now.facts) irq pair.a (link_by pair.a pair.a enabled_read used_read) →
      IsDoubleBy (HasFact facts) irq a (link_by a a enabled_read used_read)
  pub inversion : (irq : Irq) →
      IsInversion (HasFact facts) irq a b ↔ IsInversion (HasFact pair.graph.now.facts) irq pair.a pair.b
  pub in_inversion : (kind : Kind) →
      InInversion (HasFact facts) (arrow a b kind) ↔ InInversion (HasFact pair.graph.now.facts) (arrow pair.a pair.b kind)
  pub shortest_inversion : (irq : Irq) (enabled_read used_read : Bool) (walk : List Arrow) →
      IsShortestInversion (HasFact pair.graph.now.facts) irq pair.a pair.b (link_by pair.b pair.a enabled_read used_read) walk →
      IsShortestInversion (HasFact facts) irq a b (link_by b a enabled_read used_read) (renumbered_by pair.keys walk)
