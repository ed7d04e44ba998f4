-- Laws of lists and of options that the crates above need as well.
use Rattle.std.specs.Prelude.{◌≡◌, ℕ, zero, suc, ◌<◌, ◌⊎◌, ◌↔◌, List, [], ◌∷◌, ◌++◌, length, get_or, Any, Contains, IsNone, IfSome}
use Rattle.std.proofs.Common.{Option, Some, None, refl, sym, subst, inl, inr, arith}
use Rattle.std.proofs.lemmas.List.Elements.{Contains-push_cases, Contains-append_left, Contains-push}

-- ---- the members of a list
pub Contains-head : {X : Type 0} (x : X) (xs : List X) → Contains (x ∷ xs) x
Contains-head x xs = (0, omega arith, refl)

pub Contains-later : {X : Type 0} (x : X) (xs : List X) (d : X) → Contains xs d → Contains (x ∷ xs) d
Contains-later x xs d (k, lt, e) = (suc k, omega arith, e)

-- a member is the first or a later one
pub Contains-cases : {X : Type 0} (x : X) (xs : List X) (d : X) → Contains (x ∷ xs) d → (x ≡ d) ⊎ Contains xs d
Contains-cases {X} x xs d (k, lt, e) = go k lt e
  where
    go : (k : ℕ) → k < length (x ∷ xs) → get_or (x ∷ xs) k d ≡ d → (x ≡ d) ⊎ Contains xs d
    go zero lt e = inl e
    go (suc k) lt e = inr (k, omega arith, e)

-- ---- one member more in a list
pub Any-member : {X : Type 0} (P : X → Type 0) (xs : List X) → Any P xs ↔ ((x : X) × Contains xs x × P x)
Any-member P xs = (
  (λ (k, x, l, e, h). (x, (k, l, e), h)),
  (λ (x, c, h). let (k, l, e) = c in (k, x, l, e, h)),
)

pub Any-push : {X : Type 0} (P : X → Type 0) (xs : List X) (y : X) → Any P (xs ++ y ∷ []) ↔ (Any P xs ⊎ P y)
Any-push P xs y = (
  (λ h. let (x, c, p) = (Any-member P (xs ++ y ∷ [])).0 h in
      elim (Contains-push_cases xs y x c) [
        | inl i ↦ inl ((Any-member P xs).1 (x, i, p))
        | inr e ↦ inr (subst P (sym e) p)
      ]),
  (λ h. (Any-member P (xs ++ y ∷ [])).1 (elim h [
    | inl a ↦ (let (x, c, p) = (Any-member P xs).0 a in (x, Contains-append_left xs (y ∷ []) x c, p))
    | inr p ↦ (y, Contains-push xs y, p)
  ])),
)

-- ---- options
-- where what it says is so of no value, there is none
pub none_of : {X : Type 0} (o : Option X) (P : X → Type 0) → IfSome o P → ((x : X) → P x → ⊥) → IsNone o
none_of None P some no_x = refl
none_of (Some x) P some no_x = absurd (no_x x some)
