-- The first occurrences among those that were seen so far. Only private clauses cite these words.
use Rattle.std.specs.Prelude.{◌<◌, ◌≡◌, ◌≤◌, ◌⊎◌, List, Option, Some, option_and_then, option_map, slice_get, ℕ}
use Rattle.ld_explain.specs.Names.{ChainParts, Event, Fact, IsPlacedAfter, IsWellFormed, PlacedParts, chain_fact, fact_by, fact_slots, held_positions, slot_held}
use Rattle.ld_explain.specs.Origins.{HasOrigin, NoLater, Occurs, OriginParts, View}
use Rattle.ld_explain.specs.declared.origins.Origin.{Origin}

-- ---- what was seen: a set of occurrences is a predicate on facts and places
-- what occurs in the traces before this one
abbrev pub SeenBefore : View → (trace : ℕ) → Fact → Origin → Type 0
SeenBefore view trace x o = Occurs view x o × (o.trace < trace)

-- what occurs in the traces before this one, and in it before this place
abbrev pub SeenTo : View → (trace place : ℕ) → Fact → Origin → Type 0
SeenTo view trace place x o =
    Occurs view x o × ((o.trace < trace) ⊎ ((o.trace ≡ trace) × (o.place < place)))

-- the fact in slot n of a chain, by its keys' new names
abbrev pub named_fact : (ℕ → ℕ) → ChainParts → ℕ → Option Fact
named_fact rename c n = option_map (fact_by rename) (chain_fact c n)

-- the position of the held lock by which the fact in slot n of the chain at this place is given
abbrev pub slot_position : List Event → (place : ℕ) → ChainParts → ℕ → Option ℕ
slot_position t place c n = option_and_then (slice_get (held_positions t place)) (slot_held c n)

-- the place that the fact in slot n of this chain comes from
abbrev pub slot_origin : List Event → (trace place : ℕ) → ChainParts → ℕ → Origin
slot_origin t trace place c n = record { trace = trace; place = place; held = slot_position t place c n }

-- that, and the facts in the chain's slots from n on
abbrev pub SeenFrom : View → List Event → (trace place : ℕ) → ChainParts → ℕ → Fact → Origin → Type 0
SeenFrom view t trace place c n x o =
    SeenTo view trace place x o
    ⊎ ((m : ℕ) × (n ≤ m) × (m < fact_slots c) × (named_fact view.rename c m ≡ Some x) × (o ≡ slot_origin t trace place c m))

-- the event at n comes next in this well-formed trace
pub record ComesNext (t : List Event) (n : ℕ) (state : PlacedParts) (event : Event) : Type 0 where
  pub after : IsPlacedAfter t n state
  pub here : slice_get t n ≡ Some event
  pub well_formed : IsWellFormed t

-- ---- what is kept
-- the fact has an origin
abbrev pub IsKnown : OriginParts → Fact → Type 0
IsKnown parts x = (o : Origin) × HasOrigin parts x o

-- the origins are the first among these occurrences
pub record AreFirsts (Seen : Fact → Origin → Type 0) (parts : OriginParts) : Type 0 where
  pub seen : (x : Fact) (o : Origin) → HasOrigin parts x o → Seen x o
  pub first : (x : Fact) (o other : Origin) → HasOrigin parts x o → Seen x other → NoLater o other
  pub all : (x : Fact) (o : Origin) → Seen x o → IsKnown parts x

-- the fact has this origin, unless it had one before
pub record PutsOrigin (old new : OriginParts) (fact : Fact) (origin : Origin) : Type 0 where
  pub keys : new.keys ≡ old.keys
  pub there : (x : Fact) (o : Origin) → HasOrigin new x o →
      HasOrigin old x o ⊎ ((x ≡ fact) × (o ≡ origin) × ¬ IsKnown old fact)
  pub keeps : (x : Fact) (o : Origin) → HasOrigin old x o → HasOrigin new x o
  pub has : IsKnown new fact
