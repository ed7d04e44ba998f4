-- The elements of a list that maps positions.
use Rattle.ld_task.proofs.Names.{[], ◌++◌, ◌<◌, ◌∷◌, ◌≡◌, Bool, Contains, Contains-append_left, Contains-push, Contains-push_cases, arith, cases_Bool, cases_eq, inl, inr, map, map-append, subst, suc, sym, true, zero, ℕ}
use Rattle.ld_task.specs.Positions.{positions_below}

module _ {A : Type 0} (f : ℕ → A) (p : ℕ → Bool) where
  -- a position that passes, and what it maps to
  pub record Comes (n : ℕ) (x : A) : Type 0 where
    pub at : ℕ
    pub below : at < n
    pub passes : p at ≡ true
    pub gives : f at ≡ x

  pub Contains-mapped : (n : ℕ) (x : A) → Comes n x → Contains (map f (positions_below n p)) x
  unfolding positions_below
  Contains-mapped zero x c = absurd (let l = c.below in omega arith)
  Contains-mapped (suc n) x c =
      elim (cases_eq c.at n) [
        | inl e ↦
            let hit : p n ≡ true = subst (λ k. p k ≡ true) e c.passes in
            let g : f n ≡ x = subst (λ k. f k ≡ x) e c.gives in
            rw hit (subst (λ xs. Contains xs x) (sym (map-append f (positions_below n p) (n ∷ [])))
            (subst (λ y. Contains (map f (positions_below n p) ++ f n ∷ []) y) g (Contains-push (map f (positions_below n p)) (f n))))
        | inr ne ↦
            let old = Contains-mapped n x (record { at = c.at; below = (let l = c.below in omega arith); passes = c.passes; gives = c.gives }) in
            elim (cases_Bool (p n)) [
              | inl hit ↦ rw hit (subst (λ xs. Contains xs x) (sym (map-append f (positions_below n p) (n ∷ []))) (Contains-append_left (map f (positions_below n p)) (f n ∷ []) x old))
              | inr miss ↦ rw miss old
            ]
      ]

  pub mapped-comes : (n : ℕ) (x : A) → Contains (map f (positions_below n p)) x → Comes n x
  unfolding positions_below
  mapped-comes zero x c = absurd (let l = c.1 in omega arith)
  mapped-comes (suc n) x c =
      elim (cases_Bool (p n)) [
        | inr miss ↦ let r = mapped-comes n x (rw miss at c) in record { at = r.at; below = (let l = r.below in omega arith); passes = r.passes; gives = r.gives }
        | inl hit ↦
            let d : Contains (map f (positions_below n p ++ n ∷ [])) x = rw hit at c in
            elim (Contains-push_cases (map f (positions_below n p)) (f n) x (subst (λ xs. Contains xs x) (map-append f (positions_below n p) (n ∷ [])) d)) [
              | inl y ↦ let r = mapped-comes n x y in record { at = r.at; below = (let l = r.below in omega arith); passes = r.passes; gives = r.gives }
              | inr y ↦ record { at = n; below = omega arith; passes = hit; gives = y }
            ]
      ]
