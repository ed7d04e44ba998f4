-- What was found: the findings of facts as lists, in the report's order [this project's own].
use Rattle.std.specs.Prelude.{[], ◌++◌, ◌∷◌, ◌≡◌, ◌⊎◌, List, flat_map, map, suc, zero, ℕ}
use Rattle.ld_explain.specs.Names.{Arrow, En, Er, Fact, Hard, Irq, IsDouble, IsInversion, Kind, OnCircle, Sn, Soft, Sr, arrow}

-- the four kinds, in the report's order
abbrev pub kinds : List Kind
kinds = Er ∷ En ∷ Sr ∷ Sn ∷ []

-- the two states, in the report's order
abbrev pub states : List Irq
states = Hard ∷ Soft ∷ []

-- those of a list that P holds of, in its order
abbrev pub AreThose : {X : Type 0} → (X → Type 0) → List X → List X → Type 0
AreThose P [] those = those ≡ []
AreThose P (x ∷ xs) those =
    (P x × ((rest : _) × (those ≡ x ∷ rest) × AreThose P xs rest)) ⊎ (¬ P x × AreThose P xs those)

-- the numbers below n, in order
unfoldable pub numbers_below : ℕ → List ℕ
numbers_below zero = []
numbers_below (suc n) = numbers_below n ++ n ∷ []

-- all that may be dependencies, doubles and inversions between these keys, in the report's order
abbrev pub arrows_among : List ℕ → List Arrow
arrows_among keys = flat_map (λ from. flat_map (λ to. map (arrow from to) kinds) keys) keys

abbrev pub doubles_among : List ℕ → List (Irq × ℕ)
doubles_among keys = flat_map (λ irq. map (λ key. (irq, key)) keys) states

abbrev pub inversions_among : List ℕ → List (Irq × (ℕ × ℕ))
inversions_among keys = flat_map (λ irq. flat_map (λ a. map (λ b. (irq, (a, b))) keys) keys) states

-- findings: the dependencies on circles, by the first key, the second and the kind; the doubles, by the state and the key; and
-- the inversions, by the state, the first key and the second
pub record FoundParts : Type 0 where
  pub circles : List Arrow
  pub doubles : List (Irq × ℕ)
  pub inversions : List (Irq × (ℕ × ℕ))

-- these are all findings of the facts, among the keys in this order
pub record AreFound (Has : Fact → Type 0) (keys : List ℕ) (found : FoundParts) : Type 0 where
  pub circles : AreThose (OnCircle Has) (arrows_among keys) found.circles
  pub doubles : AreThose (λ x. IsDouble Has x.0 x.1) (doubles_among keys) found.doubles
  pub inversions : AreThose (λ x. IsInversion Has x.0 x.1.0 x.1.1) (inversions_among keys) found.inversions
