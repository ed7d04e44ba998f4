-- A table of the places that are reached from each place: a row of bits for each.
use Rattle.std.specs.Prelude.{◌≡◌, ℕ, ◌⊎◌, Bool, ◌↔◌, IsTrue, List, [], length, slice_index_or}
use Rattle.ld_task.specs.Kinds.{is_s, is_r}
use Rattle.ld_facts.specs.declared.places.TheConstants.{PLACES}
use Rattle.ld_facts.specs.Arrows.{Arrow}
use Rattle.ld_facts.specs.Inside.Bits.{has_bit}
use Rattle.ld_facts.specs.Inside.Places.{place, LeavesFrom}

-- the place q is in row p
abbrev pub reaches : List (List ℕ) → ℕ → ℕ → Bool
reaches table p q = has_bit (slice_index_or table p []) q

-- q is p, or is reached from it
abbrev pub Comes : List (List ℕ) → ℕ → ℕ → Type 0
Comes table p q = (p ≡ q) ⊎ IsTrue (reaches table p q)

-- a source of arrows from the key by that letter: a place that they leave, or from which one is reached
abbrev pub IsSource : List (List ℕ) → ℕ → Bool → ℕ → Type 0
IsSource table key by_s p = (l : ℕ) × LeavesFrom key by_s l × Comes table p l

-- a target of arrows to the key by that letter: the place where they arrive, or one that is reached from it
abbrev pub IsTarget : List (List ℕ) → ℕ → Bool → ℕ → Type 0
IsTarget table key by_r q = Comes table (place key by_r) q

-- the rows are those of the arrow's sources and of its targets
pub record AreSpan (table : List (List ℕ)) (d : Arrow) (sources targets : List ℕ) : Type 0 where
  pub sources_are : (p : ℕ) → IsTrue (has_bit sources p) ↔ IsSource table d.start (is_s d.kind) p
  pub targets_are : (q : ℕ) → IsTrue (has_bit targets q) ↔ IsTarget table d.end (is_r d.kind) q

-- what is reached from what is reached is reached
abbrev pub IsTransitive : List (List ℕ) → Type 0
IsTransitive table =
    (p q r : ℕ) → IsTrue (reaches table p q) → IsTrue (reaches table q r) →
    IsTrue (reaches table p r)

-- the arrow's sources reach its targets now
abbrev pub TakesArrow : (old new : List (List ℕ)) → Arrow → Type 0
TakesArrow old new d = (p q : ℕ) → IsTrue (reaches new p q) ↔
    (IsTrue (reaches old p q) ⊎ (IsSource old d.start (is_s d.kind) p ×
    IsTarget old d.end (is_r d.kind) q))

-- the second table is the first, read backwards
pub record AreTables (ahead behind : List (List ℕ)) : Type 0 where
  pub ahead_rows : length ahead ≡ PLACES
  pub behind_rows : length behind ≡ PLACES
  pub turned : (p q : ℕ) → reaches behind q p ≡ reaches ahead p q
