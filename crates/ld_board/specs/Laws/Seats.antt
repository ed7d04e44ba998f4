-- Laws of seats and lists of them, for whoever has several.
use Rattle.std.proofs.Common.{◌≡◌, ◌⊎◌, ℕ, zero, suc, ◌+◌, ◌%◌, List, [], ◌∷◌, ◌++◌, length, get_or, All, Any, inl, inr, refl, sym, ap, ◌∙◌, subst, arith, length-append}
use Rattle.std.proofs.lemmas.List.{get_or_append_left, get_or_push}
use Rattle.std.proofs.lemmas.Nat.Bits.{bit_at-zero}
use Rattle.ld_facts.specs.Numbers.{fact_number}
use Rattle.ld_facts.specs.WordPairs.{PairsHave}
use Rattle.ld_facts.specs.declared.fact.Fact.{Fact}
use Rattle.ld_board.specs.Views.{times}

-- no pairs have no facts
pub none_has : (keys : ℕ) (x : Fact) → PairsHave keys [] x → ⊥
none_has keys x (below, on) = let z = bit_at-zero (fact_number keys x % 64) in omega (arith, z, on)

-- ---- one of a list
pub Any-here : {X : Type 0} (P : X → Type 0) (x : X) (xs : List X) → P x → Any P (x ∷ xs)
Any-here P x xs h = (0, x, omega arith, refl, h)

pub Any-later : {X : Type 0} (P : X → Type 0) (x : X) (xs : List X) → Any P xs → Any P (x ∷ xs)
Any-later P x xs (k, y, l, e, h) = (suc k, y, omega (arith, l), e, h)

pub Any-cases : {X : Type 0} (P : X → Type 0) (x : X) (xs : List X) → Any P (x ∷ xs) → P x ⊎ Any P xs
Any-cases P x xs (zero, y, l, e, h) = inl (subst P (sym e) h)
Any-cases P x xs (suc k, y, l, e, h) = inr (k, y, omega (arith, l), e, h)

-- ---- the last of a list
pub all_last : {X : Type 0} (P : X → Type 0) (xs : List X) (x : X) (ys : List X) → ys ≡ xs ++ x ∷ [] → All P ys → All P xs × P x
all_last P xs x ys e h =
    let len = length-append xs (x ∷ []) in
    let same = ap length e in (
      (λ k d l. subst P (ap (λ (zs : List _). get_or zs k d) e ∙ get_or_append_left xs (x ∷ []) d k l) (h k d (omega arith))),
      subst P (ap (λ (zs : List _). get_or zs (length xs) x) e ∙ get_or_push xs x x (length xs) refl) (h (length xs) x (omega arith)),
    )

-- ---- how often a number is in two lists
pub times_append : (x : ℕ) (xs ys : List ℕ) → times x (xs ++ ys) ≡ times x xs + times x ys
times_append x [] ys = omega arith
times_append x (y ∷ ys) zs = let h = times_append x ys zs in omega arith
