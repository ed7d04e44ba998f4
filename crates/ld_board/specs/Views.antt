-- What a seat of a board has claimed, put and seen [this project's own].
use Rattle.std.specs.Prelude.{◌≡◌, ℕ, ◌+◌, ◌/◌, ◌⊎◌, ◌==◌, if◌then◌else◌, nat_lt, List, [], ◌∷◌, ◌++◌, Any}
use Rattle.ld_facts.specs.Facts.{Holds}
use Rattle.ld_facts.specs.Numbers.{fact_number}
use Rattle.ld_facts.specs.WordPairs.{PairsHave}
use Rattle.ld_facts.specs.declared.fact.Fact.{Fact}
use Rattle.ld_board.specs.declared.view.View.{View}

-- a view that has done nothing
abbrev pub newcomer : ℕ → View
newcomer parts = record { parts = parts; claimed = []; put = []; seen = [] }

-- one more number is claimed
abbrev pub with_claim : View → ℕ → View
with_claim v n = record v { claimed = n ∷ v.claimed }

-- the fact was put, and was seen, on a board about keys below `keys`
abbrev pub PutHas : (keys : ℕ) → View → Fact → Type 0
PutHas keys v x = PairsHave keys v.put x

abbrev pub SeenHas : (keys : ℕ) → View → Fact → Type 0
SeenHas keys v x = PairsHave keys v.seen x

-- one or the other
abbrev pub KnowsFact : (keys : ℕ) → View → Fact → Type 0
KnowsFact keys v x = PutHas keys v x ⊎ SeenHas keys v x

-- what was put before is still put, and beyond it only facts of P; what was put or seen before still is
pub record PutsOnly (keys : ℕ) (old new : View) (P : Fact → Type 0) : Type 0 where
  pub keeps : Holds (PutHas keys new) (PutHas keys old)
  pub only : (x : Fact) → PutHas keys new x → PutHas keys old x ⊎ P x
  pub knows : Holds (KnowsFact keys new) (KnowsFact keys old)

-- the facts' bits are in one word
abbrev pub ShareWord : (keys : ℕ) → Fact → Fact → Type 0
ShareWord keys x y = fact_number keys x / 64 ≡ fact_number keys y / 64

-- the seat looked at these words, and has now seen what was found in them and what it had seen before; the words of all
-- facts that Has names are among them, and in those it found all that it had put or seen
pub record HasLoaded (keys : ℕ) (Has : Fact → Type 0) (old new : View) (loaded : List (ℕ × ℕ)) : Type 0 where
  pub seen : new.seen ≡ loaded ++ old.seen
  pub each : (x : Fact) → Has x → Any (λ p. p.0 ≡ fact_number keys x / 64) loaded
  pub own : (x y : Fact) → Has x → ShareWord keys x y → KnowsFact keys old y → PairsHave keys loaded y

-- how often x stands in the list
abbrev pub times : ℕ → List ℕ → ℕ
times x [] = 0
times x (y ∷ ys) = (if x == y then 1 else 0) + times x ys

-- 1 if x is below n, otherwise 0
abbrev pub once_below : ℕ → ℕ → ℕ
once_below x n = if nat_lt x n then 1 else 0
