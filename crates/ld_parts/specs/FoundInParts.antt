-- What is found in the parts of the facts, by the places of keys in lists, is what is found among all facts [this
-- project's own].
use Rattle.std.specs.Prelude.{◌≡◌, ℕ, ◌<◌, ◌≤◌, ◌↔◌, List, length, map, slice_index, Contains}
use Rattle.ld_trace.specs.declared.event.Irq.{Irq}
use Rattle.ld_facts.specs.Arrows.{Arrow}
use Rattle.ld_facts.specs.Renumbered.{HasEachOnce, HasKeys, Renumbered, arrow_at}
use Rattle.ld_facts.specs.declared.fact.Fact.{Fact}
use Rattle.ld_graph.specs.Links.{IsDouble, IsDoubleBy, IsInversion, InInversion, IsShortestInversion, IsClean}
use Rattle.ld_graph.specs.Walks.{OnCircle, IsCircle, IsShortestCircle, IsShortestFrom}
use Rattle.ld_parts.specs.Ranks.{AmongRank}

-- the list has only keys of this rank, each once, and all those that the facts are about
pub record ListsRank (Has : Fact → Type 0) (rank : ℕ → ℕ) (r : ℕ) (keys : List ℕ) : Type 0 where
  pub once : HasEachOnce keys
  pub of_rank : (key : ℕ) → Contains keys key → rank key ≡ r
  pub all : (x : Fact) → AmongRank Has rank r x → HasKeys keys x

-- what is found in one part is what is found among all facts between the keys of its list
pub record AreFoundInPart (Has Among : Fact → Type 0) (keys : List ℕ) : Type 0 where
  pub on_circle : (d : Arrow) → d.start < length keys → d.end < length keys →
      OnCircle Has (arrow_at keys d) ↔ OnCircle Among d
  pub shortest_from : (d : Arrow) (walk : List Arrow) → IsShortestFrom Among d walk →
      IsShortestFrom Has (arrow_at keys d) (map (arrow_at keys) walk)
  pub double : (irq : Irq) (a : ℕ) → a < length keys → IsDouble Has irq (slice_index keys a) ↔ IsDouble Among irq a
  pub double_by : (irq : Irq) (a : ℕ) (l : Arrow) → IsDoubleBy Among irq a l →
      IsDoubleBy Has irq (slice_index keys a) (arrow_at keys l)
  pub inversion : (irq : Irq) (a b : ℕ) → a < length keys → b < length keys →
      IsInversion Has irq (slice_index keys a) (slice_index keys b) ↔ IsInversion Among irq a b
  pub shortest_inversion : (irq : Irq) (a b : ℕ) (l : Arrow) (walk : List Arrow) → IsShortestInversion Among irq a b l walk →
      IsShortestInversion Has irq (slice_index keys a) (slice_index keys b) (arrow_at keys l) (map (arrow_at keys) walk)
  pub in_inversion : (d : Arrow) → d.start < length keys → d.end < length keys →
      InInversion Has (arrow_at keys d) ↔ InInversion Among d

-- there is a part for each rank; nothing is found between keys of two ranks, a shortest of all parts' circles is a
-- shortest of all, and nothing is wrong exactly if nothing is in any part
pub record AreFoundInParts (Has : Fact → Type 0) (rank : ℕ → ℕ) (keys : ℕ → List ℕ) : Type 0 where
  pub each : (r : ℕ) → AreFoundInPart Has (Renumbered Has (keys r)) (keys r)
  pub on_circle : (d : Arrow) → OnCircle Has d → rank d.start ≡ rank d.end
  pub inversion : (irq : Irq) (a b : ℕ) → IsInversion Has irq a b → rank a ≡ rank b
  pub in_inversion : (d : Arrow) → InInversion Has d → rank d.start ≡ rank d.end
  pub shortest_circle : (r : ℕ) (circle : List Arrow) → IsShortestCircle (Renumbered Has (keys r)) circle →
      ((s : ℕ) (other : List Arrow) → IsCircle (Renumbered Has (keys s)) other → length circle ≤ length other) →
      IsShortestCircle Has (map (arrow_at (keys r)) circle)
  pub clean : IsClean Has ↔ ((r : ℕ) → IsClean (Renumbered Has (keys r)))
