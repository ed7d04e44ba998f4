-- Laws of positions below a bound that the proofs of the crates above cite.
use Rattle.std.specs.Prelude.{◌≡◌, ℕ, zero, suc, ◌<◌, ◌≤◌, Bool, true, List, [], ◌∷◌, ◌++◌, length, Some, slice_get}
use Rattle.std.proofs.Common.{◌∙◌, sym, ap, inl, inr, arith, refl}
use Rattle.std.proofs.lemmas.Bool.{cases_Bool, cases_eq, cases_lt}
use Rattle.std.proofs.lemmas.Option.{slice_get_within, same_Some}
use Rattle.ld_task.specs.Positions.{positions_below}

-- an element of a list with one more at its end
front : (xs : List ℕ) (y k : ℕ) → k < length xs → slice_get (xs ++ y ∷ []) k ≡ slice_get xs k
front [] y k l = absurd (omega arith)
front (x ∷ xs) y zero l = refl
front (x ∷ xs) y (suc k) l = front xs y k (omega (arith, l))

seam : (xs : List ℕ) (y : ℕ) → slice_get (xs ++ y ∷ []) (length xs) ≡ Some y
seam [] y = refl
seam (x ∷ xs) y = seam xs y

last : (xs : List ℕ) (y k i : ℕ) → slice_get (xs ++ y ∷ []) k ≡ Some i → length xs ≤ k → i ≡ y
last [] y zero i e l = sym (same_Some y i e)
last [] y (suc k) i e l = absurd (cc)
last (x ∷ xs) y zero i e l = absurd (omega (arith, l))
last (x ∷ xs) y (suc k) i e l = last xs y k i e (omega (arith, l))

module _ (p : ℕ → Bool) where
  -- a position in the list is below the bound, and passes
  pub positions_below-pass : (n k i : ℕ) → slice_get (positions_below n p) k ≡ Some i → (i < n) × (p i ≡ true)
  unfolding positions_below
  positions_below-pass zero k i e = absurd (cc)
  positions_below-pass (suc n) k i e = elim (cases_Bool (p n)) [
    | inl hit ↦
        let e' : slice_get (positions_below n p ++ n ∷ []) k ≡ Some i = rw hit at e in
        elim (cases_lt k (length (positions_below n p))) [
          | inl l ↦
              let r = positions_below-pass n k i (sym (front (positions_below n p) n k l) ∙ e') in
              (omega (arith, r.0), r.1)
          | inr l ↦
              let same = last (positions_below n p) n k i e' l in
              (omega (arith, same), ap p same ∙ hit)
        ]
    | inr miss ↦ let r = positions_below-pass n k i (rw miss at e) in (omega (arith, r.0), r.1)
  ]

  -- each position that passes is in the list
  pub positions_below-has : (n i : ℕ) → i < n → p i ≡ true → (k : ℕ) × (slice_get (positions_below n p) k ≡ Some i)
  unfolding positions_below
  positions_below-has zero i l h = absurd (omega (arith, l))
  positions_below-has (suc n) i l h = elim (cases_eq i n) [
    | inl same ↦
        let hit : p n ≡ true = ap p (sym same) ∙ h in
        (length (positions_below n p), rw hit (seam (positions_below n p) n ∙ ap Some (sym same)))
    | inr ne ↦
        let r = positions_below-has n i (omega (arith, l, ne)) h in
        elim (cases_Bool (p n)) [
          | inl hit ↦ (r.0, rw hit (front (positions_below n p) n r.0 (slice_get_within (positions_below n p) r.0 i r.1) ∙ r.1))
          | inr miss ↦ (r.0, rw miss r.1)
        ]
  ]

  -- the list ascends
  pub positions_below-ascend : (n a b i k : ℕ) → a ≤ b → slice_get (positions_below n p) a ≡ Some i → slice_get (positions_below n p) b ≡ Some k → i ≤ k
  unfolding positions_below
  positions_below-ascend zero a b i k l e f = absurd (cc)
  positions_below-ascend (suc n) a b i k l e f = elim (cases_Bool (p n)) [
    | inr miss ↦ positions_below-ascend n a b i k l (rw miss at e) (rw miss at f)
    | inl hit ↦
        let f' : slice_get (positions_below n p ++ n ∷ []) b ≡ Some k = rw hit at f in
        let e' : slice_get (positions_below n p ++ n ∷ []) a ≡ Some i = rw hit at e in
        elim (cases_lt b (length (positions_below n p))) [
          | inl within ↦ positions_below-ascend n a b i k l
              (sym (front (positions_below n p) n a (omega (arith, l, within))) ∙ e') (sym (front (positions_below n p) n b within) ∙ f')
          | inr past ↦
              let top = last (positions_below n p) n b k f' past in
              let r = positions_below-pass (suc n) a i e in
              omega (arith, top, r.0)
        ]
  ]
