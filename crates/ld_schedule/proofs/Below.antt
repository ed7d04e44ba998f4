-- The steps below a cut.
use Rattle.ld_schedule.proofs.Names.{Bool, Contains, IsOf, IsTrue, List, Some, Step, ap, arith, below_before, cases_lt, false, false≢true, inl, inr, is_below, is_below_of, lt-ltb, ltb-true, nat_lt, refl, slice_get, slice_index, subst, suc, sym, true, zero, cond, ℕ, ◌+◌, ◌<◌, ◌∙◌, ◌≡◌, ◌⊎◌, ◌∷◌}
use Rattle.std.proofs.Common.{add-one}

-- ---- lists
pub Contains-head : (x : ℕ) (xs : List ℕ) → Contains (x ∷ xs) x
Contains-head x xs = (0, omega arith, refl)

pub Contains-tail : (x y : ℕ) (xs : List ℕ) → Contains xs y → Contains (x ∷ xs) y
Contains-tail x y xs (k, within, e) = (suc k, omega arith, e)

pub Contains-cons_cases : (x y : ℕ) (xs : List ℕ) → Contains (x ∷ xs) y → (x ≡ y) ⊎ Contains xs y
Contains-cons_cases x y xs (zero, within, e) = inl e
Contains-cons_cases x y xs (suc k, within, e) = inr (k, omega arith, e)

-- ---- below a cut
module _ (h : List Step) (cut : List ℕ) where
  pub below_cut : (p task : ℕ) → IsOf h task p → IsTrue (is_below h cut p) → p < slice_index cut task
  below_cut p task (action, does) is =
      let e : is_below h cut p ≡ nat_lt p (slice_index cut task) = ap (is_below_of cut p) does in
      ltb-true p (slice_index cut task) (sym e ∙ is)

  pub cut_below : (p task : ℕ) → IsOf h task p → p < slice_index cut task → IsTrue (is_below h cut p)
  cut_below p task (action, does) less =
      let e : is_below h cut p ≡ nat_lt p (slice_index cut task) = ap (is_below_of cut p) does in
      e ∙ lt-ltb p (slice_index cut task) less

  pub below_more : (n : ℕ) → IsTrue (is_below h cut n) → below_before h cut (n + 1) ≡ n ∷ below_before h cut n
  below_more n is = rw (add-one, is) refl

  pub below_same : (n : ℕ) → is_below h cut n ≡ false → below_before h cut (n + 1) ≡ below_before h cut n
  below_same n not = rw (add-one, not) refl

  -- the test of the step that is read there
  pub test_read : (p : ℕ) (step : Step) → slice_get h p ≡ Some step → is_below h cut p ≡ nat_lt p (slice_index cut step.task)
  test_read p step at = ap (is_below_of cut p) at

  below_is_more : (n q : ℕ) (rest : List ℕ) (b : Bool) → is_below h cut n ≡ b →
      (Contains rest q → (q < n) × IsTrue (is_below h cut q)) → Contains (cond b (n ∷ rest) rest) q →
      (q < suc n) × IsTrue (is_below h cut q)
  below_is_more n q rest true is earlier among = elim (Contains-cons_cases n q rest among) [
    | inl e ↦ (omega arith, subst (λ x. IsTrue (is_below h cut x)) e is)
    | inr old ↦ let b = earlier old in (omega arith, b.1)
  ]
  below_is_more n q rest false not earlier among = let b = earlier among in (omega arith, b.1)

  pub below_is : (n q : ℕ) → Contains (below_before h cut n) q → (q < n) × IsTrue (is_below h cut q)
  below_is zero q (k, within, e) = absurd (omega arith)
  below_is (suc n) q among = below_is_more n q (below_before h cut n) (is_below h cut n) refl (below_is n q) among

  below_has_more : (n q : ℕ) (rest : List ℕ) (b : Bool) → is_below h cut n ≡ b →
      (q < n → IsTrue (is_below h cut q) → Contains rest q) → q < suc n → IsTrue (is_below h cut q) →
      Contains (cond b (n ∷ rest) rest) q
  below_has_more n q rest true at earlier upto is = elim (cases_lt q n) [
    | inl less ↦ Contains-tail n q rest (earlier less is)
    | inr late ↦ let e : n ≡ q = omega arith in subst (Contains (n ∷ rest)) e (Contains-head n rest)
  ]
  below_has_more n q rest false at earlier upto is = elim (cases_lt q n) [
    | inl less ↦ earlier less is
    | inr late ↦ let e : q ≡ n = omega arith in absurd (false≢true (sym at ∙ ap (is_below h cut) (sym e) ∙ is))
  ]

  pub below_has : (n q : ℕ) → q < n → IsTrue (is_below h cut q) → Contains (below_before h cut n) q
  below_has zero q before is = absurd (omega arith)
  below_has (suc n) q before is = below_has_more n q (below_before h cut n) (is_below h cut n) refl (below_has n q) before is
