-- Which keys the dependencies of findings lead from and to.
use Rattle.ld_text.proofs.Names.{◌+◌, ◌<◌, ◌↔◌, ◌∙◌, ◌≡◌, ◌≢◌, ◌≤◌, ◌⊎◌, Any, Any-push, AreJoined, Arrow, Bool, DependenciesOf, Fact, IsFoundArrow, IsTrue, Leads, List, OnCircle-member, StrongWalk-members, arith, arrow, false, get_or-replicate, get_or-set_other, get_or-set_same, get_or_default, inl, inr, kinds, length, refl, replicate, slice_index, slice_index_or, slice_set, subst, sym, take, take_all, take_more, true, ℕ}
use mathlib.Core.Logic.{dite}
use native.Mathlib.Decide.{ℕ_discrete}
use Rattle.ld_text.proofs.PictureGrowing.{none-yet}

-- what is part of a finding is a dependency
pub IsFoundArrow-dependency : (Has : Fact → Type 0) (d : Arrow) → IsFoundArrow Has d → DependenciesOf Has d
IsFoundArrow-dependency Has d (inl on) = OnCircle-member Has d on
IsFoundArrow-dependency Has d (inr (irq, a, b, first, rest, l, with, (k, within, is))) =
    subst (DependenciesOf Has) is (StrongWalk-members (DependenciesOf Has) first rest with.0.0 k d within)

module _ {X : Type 0} (P Q : X → Type 0) where
  -- one of a list is so in one of two ways
  pub Any-either : (xs : List X) → Any (λ x. P x ⊎ Q x) xs ↔ (Any P xs ⊎ Any Q xs)
  Any-either xs = (
    (λ (k, x, within, is, holds). elim holds [
      | inl p ↦ inl (k, x, within, is, p)
      | inr q ↦ inr (k, x, within, is, q)
    ]),
    (λ any. elim any [
      | inl (k, x, within, is, p) ↦ (k, x, within, is, inl p)
      | inr (k, x, within, is, q) ↦ (k, x, within, is, inr q)
    ]),
  )

  pub Any-more : ((x : X) → P x → Q x) → (xs : List X) → Any P xs → Any Q xs
  Any-more more xs (k, x, within, is, p) = (k, x, within, is, more x p)

-- a key is joined if one leads from it, or to it
pub joined-either : (Has : Fact → Type 0) (key : ℕ) (keys : List ℕ) → Any (AreJoined Has key) keys ↔ (Any (Leads Has key) keys ⊎ Any (λ a. Leads Has a key) keys)
joined-either Has key keys =
    let split = λ (o : ℕ). Any-either (λ kind. IsFoundArrow Has (arrow key o kind)) (λ kind. IsFoundArrow Has (arrow o key kind)) kinds in
    let both = Any-either (Leads Has key) (λ a. Leads Has a key) keys in (
      (λ any. both.0 (Any-more (AreJoined Has key) (λ o. Leads Has key o ⊎ Leads Has o key) (λ o. (split o).0) keys any)),
      (λ any. Any-more (λ o. Leads Has key o ⊎ Leads Has o key) (AreJoined Has key) (λ o. (split o).1) keys (both.1 any)),
    )

-- one of the list so far, or the next
pub Any-next : {X : Type 0} (P : X → Type 0) (xs : List X) (n : ℕ) (d : X) → n < length xs → Any P (take (n + 1) xs) ↔ (Any P (take n xs) ⊎ P (slice_index_or xs n d))
Any-next P xs n d within = subst (λ ys. Any P ys ↔ (Any P (take n xs) ⊎ P (slice_index_or xs n d))) (sym (take_more xs n d within)) (Any-push P (take n xs) (slice_index_or xs n d))

-- whether it holds of one so far, after one of which it holds, and after one of which it doesn't
pub next-true : {X : Type 0} (P : X → Type 0) (xs : List X) (n : ℕ) (d : X) → n < length xs → P (slice_index_or xs n d) → IsTrue true ↔ Any P (take (n + 1) xs)
next-true P xs n d within p = (λ t. (Any-next P xs n d within).1 (inr p), λ any. refl)

pub next-same : {X : Type 0} (P : X → Type 0) (xs : List X) (n : ℕ) (d : X) (any : Bool) → n < length xs → IsTrue any ↔ Any P (take n xs) → ¬ P (slice_index_or xs n d) → IsTrue any ↔ Any P (take (n + 1) xs)
next-same P xs n d any within before isnt = (
  λ t. (Any-next P xs n d within).1 (inl (before.0 t)),
  λ more. elim ((Any-next P xs n d within).0 more) [
    | inl earlier ↦ before.1 earlier
    | inr here ↦ absurd (isnt here)
  ],
)

-- a mark that is set, and the others
pub set-true : (marks : List Bool) (n : ℕ) → n < length marks → IsTrue (slice_index_or (slice_set marks n true) n false)
set-true marks n within = get_or-set_same marks n true false within

pub set-others : (marks : List Bool) (n k : ℕ) → k ≢ n → slice_index_or (slice_set marks n true) k false ≡ slice_index_or marks k false
set-others marks n k other = get_or-set_other marks n k true false other

-- one of the first n + 1 is the last of these or an earlier one
last-or-earlier : {A : Type 0} (k n : ℕ) → k < n + 1 → (k ≡ n → A) → (k < n → A) → A
last-or-earlier k n l here before = dite (ℕ_discrete k n) here (λ other. before (omega (arith, l, other)))

-- the first n are marked as they were or by P, and the rest as they were
module _ (P : ℕ → Type 0) (old marks : List Bool) (n : ℕ) (within : n < length marks) (done : (k : ℕ) → k < n → IsTrue (slice_index_or marks k false) ↔ (IsTrue (slice_index_or old k false) ⊎ P k)) (rest : (k : ℕ) → n ≤ k → slice_index_or marks k false ≡ slice_index_or old k false) where
  pub done-set : P n → (k : ℕ) → k < n + 1 → IsTrue (slice_index_or (slice_set marks n true) k false) ↔ (IsTrue (slice_index_or old k false) ⊎ P k)
  done-set p k l = last-or-earlier k n l
      (λ e. (λ t. inr (subst P (sym e) p), λ any. subst (λ i. IsTrue (slice_index_or (slice_set marks n true) i false)) (sym e) (set-true marks n within)))
      (λ earlier. subst (λ b. IsTrue b ↔ (IsTrue (slice_index_or old k false) ⊎ P k)) (sym (set-others marks n k (λ e. omega (arith, e, earlier)))) (done k earlier))

  pub rest-set : (k : ℕ) → n + 1 ≤ k → slice_index_or (slice_set marks n true) k false ≡ slice_index_or old k false
  rest-set k l = set-others marks n k (λ e. omega (arith, e, l)) ∙ rest k (omega (arith, l))

  pub done-kept : ¬ P n → (k : ℕ) → k < n + 1 → IsTrue (slice_index_or marks k false) ↔ (IsTrue (slice_index_or old k false) ⊎ P k)
  done-kept not_p k l = last-or-earlier k n l
      (λ e. (
        (λ t. inl (subst (λ b. IsTrue b) (rest k (omega (arith, e))) t)),
        (λ any. elim any [
          | inl o ↦ subst (λ b. IsTrue b) (sym (rest k (omega (arith, e)))) o
          | inr p ↦ absurd (not_p (subst P e p))
        ]),
      ))
      (λ earlier. done k earlier)

-- the keys that were gone through lead somewhere, or one of them leads to the key
abbrev pub Joined : (Lead : ℕ → ℕ → Type 0) → (keys : List ℕ) → (n k : ℕ) → Type 0
Joined Lead keys n k = ((k < n) × Any (Lead (slice_index keys k)) keys) ⊎ Any (λ a. Lead a (slice_index keys k)) (take n keys)

module _ (Lead : ℕ → ℕ → Type 0) (keys : List ℕ) (n : ℕ) (within : n < length keys) (before marks : List Bool) (len : length marks ≡ length keys) (was : (k : ℕ) → k < length keys → IsTrue (slice_index_or before k false) ↔ Joined Lead keys n k) (led : (k : ℕ) → k < length keys → IsTrue (slice_index_or marks k false) ↔ (IsTrue (slice_index_or before k false) ⊎ Lead (slice_index keys n) (slice_index keys k))) where
  -- what was marked, or is led to
  forth : (k : ℕ) → k < length keys → IsTrue (slice_index_or marks k false) → Joined Lead keys (n + 1) k
  forth k l t = elim ((led k l).0 t) [
    | inl b ↦ elim ((was k l).0 b) [
      | inl out ↦ inl (omega (arith, out.0), out.1)
      | inr any ↦ inr ((Any-next (λ a. Lead a (slice_index keys k)) keys n 0 within).1 (inl any))
    ]
    | inr lead ↦ inr ((Any-next (λ a. Lead a (slice_index keys k)) keys n 0 within).1 (inr lead))
  ]

  back : (k : ℕ) → k < length keys → ¬ ((k ≡ n) × Any (Lead (slice_index keys k)) keys) → Joined Lead keys (n + 1) k → IsTrue (slice_index_or marks k false)
  back k l not_here joined = elim joined [
    | inl out ↦ last-or-earlier k n out.0 (λ e. absurd (not_here (e, out.1))) (λ earlier. (led k l).1 (inl ((was k l).1 (inl (earlier, out.1)))))
    | inr any ↦ elim ((Any-next (λ a. Lead a (slice_index keys k)) keys n 0 within).0 any) [
      | inl earlier ↦ (led k l).1 (inl ((was k l).1 (inr earlier)))
      | inr lead ↦ (led k l).1 (inr lead)
    ]
  ]

  pub joined-kept : ¬ Any (Lead (slice_index keys n)) keys → (k : ℕ) → k < length keys → IsTrue (slice_index_or marks k false) ↔ Joined Lead keys (n + 1) k
  joined-kept nowhere k l = (forth k l, back k l (λ here. nowhere (subst (λ i. Any (Lead (slice_index keys i)) keys) here.0 here.1)))

  pub joined-set : Any (Lead (slice_index keys n)) keys → (k : ℕ) → k < length keys → IsTrue (slice_index_or (slice_set marks n true) k false) ↔ Joined Lead keys (n + 1) k
  joined-set out k l = dite (ℕ_discrete k n)
      (λ e. (
        (λ t. inl (omega (arith, e), subst (λ i. Any (Lead (slice_index keys i)) keys) (sym e) out)),
        (λ joined. subst (λ i. IsTrue (slice_index_or (slice_set marks n true) i false)) (sym e) (set-true marks n (omega (arith, len, within)))),
      ))
      (λ other. subst (λ b. IsTrue b ↔ Joined Lead keys (n + 1) k) (sym (set-others marks n k other)) (forth k l, back k l (λ here. other here.0)))

-- before any key was gone through, no mark is set
pub joined-none : (Lead : ℕ → ℕ → Type 0) (keys : List ℕ) (marks : List Bool) → marks ≡ replicate (length keys) false → (k : ℕ) → k < length keys → IsTrue (slice_index_or marks k false) ↔ Joined Lead keys 0 k
joined-none Lead keys marks none k l = (
  λ t. absurd (let unset : slice_index_or marks k false ≡ false = subst (λ ms. slice_index_or ms k false ≡ false) (sym none) (get_or-replicate (length keys) k false false l) in cc),
  λ joined. elim joined [
    | inl out ↦ absurd (omega (arith, out.0))
    | inr any ↦ absurd (none-yet (λ a. Lead a (slice_index keys k)) any)
  ],
)

-- the key at a place, whatever is beyond the list
pub at-place : (Q : ℕ → Type 0) (keys : List ℕ) (n d : ℕ) → n < length keys → Q (slice_index_or keys n d) → Q (slice_index keys n)
at-place Q keys n d within q = subst Q (get_or_default keys n d 0 within) q

pub from-place : (Q : ℕ → Type 0) (keys : List ℕ) (n d : ℕ) → n < length keys → Q (slice_index keys n) → Q (slice_index_or keys n d)
from-place Q keys n d within q = subst Q (get_or_default keys n 0 d within) q

-- when all keys were gone through
pub joined-all : (Has : Fact → Type 0) (keys : List ℕ) (n k : ℕ) (mark : Bool) → length keys ≤ n → k < length keys → IsTrue mark ↔ Joined (Leads Has) keys n k → IsTrue mark ↔ Any (AreJoined Has (slice_index keys k)) keys
joined-all Has keys n k mark all within is =
    let both = joined-either Has (slice_index keys k) keys in
    let whole = take_all n keys all in (
      (λ t. both.1 (elim (is.0 t) [
        | inl out ↦ inl out.1
        | inr into ↦ inr (subst (Any (λ a. Leads Has a (slice_index keys k))) whole into)
      ])),
      (λ any. is.1 (elim (both.0 any) [
        | inl out ↦ inl (omega (arith, all, within), out)
        | inr into ↦ inr (subst (Any (λ a. Leads Has a (slice_index keys k))) (sym whole) into)
      ])),
    )
