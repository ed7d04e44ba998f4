-- The findings of equal facts; and one number more.
use Rattle.std.specs.Prelude.{[], ◌++◌, ◌+◌, ◌↔◌, ◌∷◌, ◌≡◌, List, suc, ℕ}
use Rattle.ld_explain.specs.Names.{AreSame, Fact, IsDouble-same, IsInversion-same, OnCircle-same, arith, inl, inr, refl, subst, sym}
use Rattle.ld_explain.specs.Found.{AreFound, AreThose, FoundParts, arrows_among, doubles_among, inversions_among, numbers_below}

-- those that the same is said of
AreThose-same : {X : Type 0} (P Q : X → Type 0) → ((x : X) → P x ↔ Q x) → (xs those : List X) → AreThose P xs those → AreThose Q xs those
AreThose-same P Q same [] those none = none
AreThose-same P Q same (x ∷ xs) those (inl (holds, (rest, is, more))) =
    inl ((same x).0 holds, (rest, is, AreThose-same P Q same xs rest more))
AreThose-same P Q same (x ∷ xs) those (inr (fails, more)) =
    inr (λ q. fails ((same x).1 q), AreThose-same P Q same xs those more)

-- the findings of equal facts
pub AreFound-same : (P Q : Fact → Type 0) → AreSame P Q → (keys : List ℕ) (found : FoundParts) →
    AreFound P keys found → AreFound Q keys found
AreFound-same P Q same keys found are = record {
  circles = AreThose-same _ _ (OnCircle-same P Q same) (arrows_among keys) found.circles are.circles;
  doubles = AreThose-same _ _ (λ x. IsDouble-same P Q same x.0 x.1) (doubles_among keys) found.doubles are.doubles;
  inversions = AreThose-same _ _ (λ x. IsInversion-same P Q same x.0 x.1.0 x.1.1) (inversions_among keys) found.inversions are.inversions;
}

-- ---- numbers
pub numbers_below-more : (n : ℕ) → numbers_below (n + 1) ≡ numbers_below n ++ n ∷ []
unfolding numbers_below
numbers_below-more n = let e : n + 1 ≡ suc n = omega arith in subst (λ m. numbers_below m ≡ numbers_below n ++ n ∷ []) (sym e) refl

pub numbers_below-zero : numbers_below 0 ≡ []
unfolding numbers_below
numbers_below-zero = refl
