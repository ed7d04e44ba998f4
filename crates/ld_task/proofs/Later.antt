-- The acquisitions of one key in one frame that come after a given one.
use Rattle.ld_task.proofs.Names.{◌&&◌, ◌+◌, ◌<◌, ◌∙◌, ◌≡◌, ◌≤◌, Acquire, Enter, Event, Leave, List, None, Option, Release, Some, TurnOff, TurnOn, acquisitions_since, and_from, and_parts, ap, arith, cases_eq, cases_lt, eq-eqb, eqb, eqb-true, event, inl, inr, is_acquire, key_at, key_taken, le-ltb, lt-ltb, ltb, ltb-true, refl, releases_since, suc, sym, takes, true, true≢false, ℕ}
use Rattle.ld_task.specs.Positions.{count_below}
use Rattle.ld_task.specs.Frames.{depth, one_frame}
use Rattle.ld_task.specs.Held.{is_kept}
use Rattle.ld_task.proofs.PositionLemmas.{count_below-none}
use Rattle.ld_task.proofs.TraceLemmas.{one_frame-depth, one_frame-above, one_frame-from}

module _ (t : List Event) where
  -- the acquisitions of i's key in i's frame that were taken after i and are kept at n
  unfoldable pub later : ℕ → ℕ → ℕ
  later i n = count_below n (λ m. ltb i m && is_kept t m n && one_frame t i m && eqb (key_at t m) (key_at t i))

  -- each release in i's frame took one of them, or they are there
  pub record Counted (n : ℕ) : Type 0 where
    pub sum : (i : ℕ) → is_kept t i n ≡ true → later i n + releases_since t i n ≡ acquisitions_since t i n

  module _ (i m n : ℕ) (im : i < m) (mn : m < n) where
    pub frame-over : one_frame t i m ≡ true → one_frame t m n ≡ true → one_frame t i n ≡ true
    frame-over a b =
        let d = one_frame-depth t i m a in
        let e = one_frame-depth t m n b in
        one_frame-from t i n (d ∙ e) (λ k x y. elim (cases_lt k m) [
          | inl l ↦ one_frame-above t i m a k x l
          | inr l ↦ elim (cases_eq k m) [
            | inl f ↦ let g = ap (depth t) f in omega arith
            | inr ne ↦ let h : depth t m ≤ depth t k = one_frame-above t m n b k (omega arith) y in omega arith
          ]
        ])

    pub frame-right : one_frame t i m ≡ true → one_frame t i n ≡ true → one_frame t m n ≡ true
    frame-right a b =
        let d = one_frame-depth t i m a in
        let e = one_frame-depth t i n b in
        one_frame-from t m n (sym d ∙ e) (λ k x y. let h = one_frame-above t i n b k (omega arith) y in omega arith)

    pub frame-left : one_frame t i n ≡ true → one_frame t m n ≡ true → one_frame t i m ≡ true
    frame-left a b =
        let d = one_frame-depth t i n a in
        let e = one_frame-depth t m n b in
        one_frame-from t i m (d ∙ sym e) (λ k x y. one_frame-above t i n a k x (omega arith))

  pub takes-key : (key i : ℕ) → is_acquire (event t i) ≡ true → takes key (event t i) ≡ eqb (key_at t i) key
  takes-key key i h = at (event t i) h
    where
      at : (o : Option Event) → is_acquire o ≡ true → takes key o ≡ eqb (key_taken o) key
      at (Some (Acquire mode k)) h = refl
      at None h = absurd (true≢false (sym h))
      at (Some (Release k)) h = absurd (true≢false (sym h))
      at (Some (Enter irq)) h = absurd (true≢false (sym h))
      at (Some Leave) h = absurd (true≢false (sym h))
      at (Some (TurnOn irq)) h = absurd (true≢false (sym h))
      at (Some (TurnOff irq)) h = absurd (true≢false (sym h))

  pub later-itself : (n : ℕ) → later n (suc n) ≡ 0
  unfolding later
  later-itself n = count_below-none (λ m. ltb n m && is_kept t m (suc n) && one_frame t n m && eqb (key_at t m) (key_at t n)) (suc n)
      (λ m l. let e = le-ltb n m (omega arith) in rw e refl)

  -- a member of `later`, as facts
  pub record IsLater (i m n : ℕ) : Type 0 where
    pub after : i < m
    pub is_kept : is_kept t m n ≡ true
    pub frame : one_frame t i m ≡ true
    pub key : key_at t m ≡ key_at t i

  pub later-true : (i m n : ℕ) → (ltb i m && is_kept t m n && one_frame t i m && eqb (key_at t m) (key_at t i)) ≡ true → IsLater i m n
  later-true i m n h =
      let abc = and_parts (ltb i m && is_kept t m n && one_frame t i m) _ h in
      let ab = and_parts (ltb i m && is_kept t m n) (one_frame t i m) abc.0 in
      let a = and_parts (ltb i m) (is_kept t m n) ab.0 in
      record { after = ltb-true i m a.0; is_kept = a.1; frame = ab.1; key = eqb-true _ _ abc.1 }

  pub later-from : (i m n : ℕ) → IsLater i m n → (ltb i m && is_kept t m n && one_frame t i m && eqb (key_at t m) (key_at t i)) ≡ true
  later-from i m n h =
      and_from (ltb i m && is_kept t m n && one_frame t i m) _
      (and_from (ltb i m && is_kept t m n) (one_frame t i m) (and_from (ltb i m) (is_kept t m n) (lt-ltb i m h.after) h.is_kept) h.frame)
      (eq-eqb _ _ h.key)
