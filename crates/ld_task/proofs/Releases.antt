-- A release takes the newest held lock of its key, and nothing else.
use Rattle.ld_task.proofs.Names.{◌&&◌, ◌+◌, ◌<◌, ◌∙◌, ◌≡◌, ◌≢◌, ◌≤◌, Bool, Event, List, Release, Some, acquisitions_since, and_from, and_left, and_parts, and_right, ap, arith, both_ways, cases_Bool, cases_lt, cond, eq-eqb, eqb, eqb-true, event, false, false_from_ne_true, gives_back, inl, inr, is_acquire, is_enter, is_leave, key_at, ltb, ne_eqb, not, not_from_false, not_from_true, refl, releases_since, subst, suc, sym, takes, true, true≢false, ℕ}
use Rattle.ld_task.specs.Positions.{positions_below, count_below, last_below}
use Rattle.ld_task.specs.Frames.{depth, one_frame}
use Rattle.ld_task.specs.Held.{is_kept, is_held}
use Rattle.ld_task.proofs.PositionLemmas.{last_below-lt, last_below-holds, last_below-last, count_below-none, count_below-hit, count_below-without, count_below-cong, positions_below-cong}
use Rattle.ld_task.proofs.TraceLemmas.{is_kept-true, is_kept-from, is_held-from, is_held-parts}
use Rattle.ld_task.proofs.NextPosition.{depth-quiet, count_since-suc, is_kept-back, is_kept-on, is_kept-not_acquired}
use Rattle.ld_task.proofs.Later.{later, Counted, frame-over, frame-right, frame-left, takes-key, IsLater, later-true, later-from}

module _ (t : List Event) where
  -- a release of the key at n, with the newest held lock of that key
  pub record IsRelease (n key r : ℕ) : Type 0 where
    pub event_is : event t n ≡ Some (Release key)
    pub newest : last_below n (λ i. is_held t i n && takes key (event t i)) ≡ Some r

  module _ (n key r : ℕ) (c : Counted t n) (rel : IsRelease n key r) where
    below : r < n
    below = last_below-lt (λ i. is_held t i n && takes key (event t i)) n r rel.newest

    newest-is_held : is_held t r n ≡ true
    newest-is_held = (and_parts _ _ (last_below-holds (λ i. is_held t i n && takes key (event t i)) n r rel.newest)).0

    newest-is_kept : is_kept t r n ≡ true
    newest-is_kept = (is_held-parts t r n newest-is_held).0

    newest-frame : one_frame t r n ≡ true
    newest-frame = (is_held-parts t r n newest-is_held).1

    newest-key : key_at t r ≡ key
    newest-key =
        let k = (and_parts _ _ (last_below-holds (λ i. is_held t i n && takes key (event t i)) n r rel.newest)).1 in
        eqb-true (key_at t r) key (sym (takes-key t key r (is_kept-true t r n newest-is_kept).taken) ∙ k)

    -- no later one is held of that key
    none-later : (m : ℕ) → r < m → m < n → is_kept t m n ≡ true → one_frame t m n ≡ true → key_at t m ≡ key → ⊥
    none-later m a b k f e =
        let no_hit = last_below-last (λ i. is_held t i n && takes key (event t i)) n r m rel.newest a b in
        let h = is_held-from t m n k f in
        let g : takes key (event t m) ≡ true = takes-key t key m (is_kept-true t m n k).taken ∙ eq-eqb _ _ e in
        true≢false (sym (and_from (is_held t m n) (takes key (event t m)) h g) ∙ no_hit)

    quiet : depth t (suc n) ≡ depth t n
    quiet = depth-quiet t n (ap is_enter rel.event_is) (ap is_leave rel.event_is)

    given-suc : (i : ℕ) → i < n → releases_since t i (suc n) ≡ cond (one_frame t i n && eqb key (key_at t i)) (releases_since t i n + 1) (releases_since t i n)
    given-suc i l = count_since-suc t n i (gives_back (key_at t i)) l ∙ ap (λ o. cond (one_frame t i n && gives_back (key_at t i) o) (releases_since t i n + 1) (releases_since t i n)) rel.event_is

    taken-suc : (i : ℕ) → i < n → acquisitions_since t i (suc n) ≡ acquisitions_since t i n
    taken-suc i l =
        count_since-suc t n i (takes (key_at t i)) l
        ∙ ap (λ o. cond (one_frame t i n && takes (key_at t i) o) (acquisitions_since t i n + 1) (acquisitions_since t i n)) rel.event_is
        ∙ ap (λ b. cond b (acquisitions_since t i n + 1) (acquisitions_since t i n)) (and_right (one_frame t i n) false refl)

    given-same : (i : ℕ) → i < n → (one_frame t i n && eqb key (key_at t i)) ≡ false → releases_since t i (suc n) ≡ releases_since t i n
    given-same i l e = given-suc i l ∙ ap (λ b. cond b (releases_since t i n + 1) (releases_since t i n)) e

    given-more : (i : ℕ) → i < n → (one_frame t i n && eqb key (key_at t i)) ≡ true → releases_since t i (suc n) ≡ releases_since t i n + 1
    given-more i l e = given-suc i l ∙ ap (λ b. cond b (releases_since t i n + 1) (releases_since t i n)) e

    later-newest : later t r n ≡ 0
    unfolding later
    later-newest = count_below-none (λ m. ltb r m && is_kept t m n && one_frame t r m && eqb (key_at t m) (key_at t r)) n
        (λ m l. false_from_ne_true _ (λ h.
        let x = later-true t r m n h in
        none-later m x.after l x.is_kept (frame-right t r m n x.after l x.frame newest-frame) (x.key ∙ newest-key)))

    -- an older one of that key in the frame has the newest after it
    is_later : (i : ℕ) → i < r → (one_frame t i n && eqb key (key_at t i)) ≡ true → IsLater t i r n
    is_later i l b =
        let both = and_parts (one_frame t i n) (eqb key (key_at t i)) b in
        record { after = l; is_kept = newest-is_kept; frame = frame-left t i r n l below both.0 newest-frame; key = newest-key ∙ eqb-true _ _ both.1 }

    -- and there is no other kind
    older : (i : ℕ) → i < n → is_kept t i n ≡ true → i ≢ r → (one_frame t i n && eqb key (key_at t i)) ≡ true → i < r
    older i l k ne b =
        let both = and_parts (one_frame t i n) (eqb key (key_at t i)) b in
        elim (cases_lt i r) [ inl x ↦ x | inr x ↦ absurd (none-later i (omega arith) l k both.0 (sym (eqb-true _ _ both.1))) ]

    later-positive : (i : ℕ) → IsLater t i r n → 0 < later t i n
    unfolding later
    later-positive i x = count_below-hit (λ m. ltb i m && is_kept t m n && one_frame t i m && eqb (key_at t m) (key_at t i)) n r below (later-from t i r n x)

    -- the release takes the newest and nothing else
    pub is_kept-release : (i : ℕ) → i < n → is_kept t i (suc n) ≡ (is_kept t i n && not (eqb i r))
    is_kept-release i l = both_ways (is_kept t i (suc n)) (is_kept t i n && not (eqb i r)) there back
      where
        there : is_kept t i (suc n) ≡ true → (is_kept t i n && not (eqb i r)) ≡ true
        there h =
            let k = is_kept-true t i (suc n) h in
            and_from (is_kept t i n) (not (eqb i r)) (is_kept-from t i n (is_kept-back t n i l k))
            (not_from_false (eqb i r) (ne_eqb i r (λ e.
            let b : (one_frame t i n && eqb key (key_at t i)) ≡ true =
            subst (λ x. (one_frame t x n && eqb key (key_at t x)) ≡ true) (sym e) (and_from (one_frame t r n) _ newest-frame (eq-eqb _ _ (sym newest-key))) in
            let more = given-more i l b in
            let same = taken-suc i l in
            let sum = c.sum i (is_kept-from t i n (is_kept-back t n i l k)) in
            let none : later t i n ≡ 0 = subst (λ x. later t x n ≡ 0) (sym e) later-newest in
            let balance = k.balance (suc n) (omega arith) (omega arith) in
            omega arith)))

        back : (is_kept t i n && not (eqb i r)) ≡ true → is_kept t i (suc n) ≡ true
        back h =
            let both = and_parts (is_kept t i n) (not (eqb i r)) h in
            let k = is_kept-true t i n both.0 in
            let ne : i ≢ r = λ e. true≢false (sym both.1 ∙ not_from_true (eqb i r) (eq-eqb i r e)) in
            let above : depth t i ≤ depth t (suc n) = rw quiet (k.above n l (omega arith)) in
            let balance = k.balance n l (omega arith) in
            let same = taken-suc i l in
            is_kept-from t i (suc n) (is_kept-on t n i k above
            (elim (cases_Bool (one_frame t i n && eqb key (key_at t i))) [
              | inl b ↦
                  let more = given-more i l b in
                  let sum = c.sum i both.0 in
                  let positive = later-positive i (is_later i (older i l both.0 ne b) b) in
                  omega arith
              | inr b ↦ let given = given-same i l b in omega arith
            ]))

    not-new : is_kept t n (suc n) ≡ false
    not-new = is_kept-not_acquired t n (ap is_acquire rel.event_is)

    -- the kept locks after a release
    pub locks-release : positions_below (suc n) (λ i. is_kept t i (suc n)) ≡ positions_below n (λ i. is_kept t i n && not (eqb i r))
    unfolding positions_below
    locks-release = rw not-new (positions_below-cong (λ i. is_kept t i (suc n)) (λ i. is_kept t i n && not (eqb i r)) n is_kept-release)

    and_move : (a b c d e : Bool) → (a && (b && e) && c && d) ≡ ((a && b && c && d) && e)
    and_move false b c d e = refl
    and_move true false c d e = refl
    and_move true true true true true = refl
    and_move true true true true false = refl
    and_move true true true false true = refl
    and_move true true true false false = refl
    and_move true true false d true = refl
    and_move true true false d false = refl

    later-suc : (i : ℕ) → later t i (suc n) ≡ count_below n (λ m. (ltb i m && is_kept t m n && one_frame t i m && eqb (key_at t m) (key_at t i)) && not (eqb m r))
    unfolding later count_below
    later-suc i =
        let f : (ltb i n && is_kept t n (suc n) && one_frame t i n && eqb (key_at t n) (key_at t i)) ≡ false = and_left _ _ (and_left _ _ (and_right (ltb i n) _ not-new)) in
        rw f (count_below-cong
        (λ m. ltb i m && is_kept t m (suc n) && one_frame t i m && eqb (key_at t m) (key_at t i))
        (λ m. (ltb i m && is_kept t m n && one_frame t i m && eqb (key_at t m) (key_at t i)) && not (eqb m r)) n
        (λ m l. ap (λ b. ltb i m && b && one_frame t i m && eqb (key_at t m) (key_at t i)) (is_kept-release m l)
        ∙ and_move (ltb i m) (is_kept t m n) (one_frame t i m) (eqb (key_at t m) (key_at t i)) (not (eqb m r))))

    counted-old : (i : ℕ) → i < n → is_kept t i (suc n) ≡ true → later t i (suc n) + releases_since t i (suc n) ≡ acquisitions_since t i (suc n)
    unfolding later
    counted-old i l h =
        let both = and_parts (is_kept t i n) (not (eqb i r)) (sym (is_kept-release i l) ∙ h) in
        let ne : i ≢ r = λ e. true≢false (sym both.1 ∙ not_from_true (eqb i r) (eq-eqb i r e)) in
        let sum = c.sum i both.0 in
        let same = taken-suc i l in
        let less = later-suc i in
        elim (cases_Bool (one_frame t i n && eqb key (key_at t i))) [
          | inl b ↦
              let more = given-more i l b in
              let x = later-from t i r n (is_later i (older i l both.0 ne b) b) in
              let one = count_below-without (λ m. ltb i m && is_kept t m n && one_frame t i m && eqb (key_at t m) (key_at t i)) n r below x in
              omega arith
          | inr b ↦
              let given = given-same i l b in
              let all = count_below-cong
              (λ m. (ltb i m && is_kept t m n && one_frame t i m && eqb (key_at t m) (key_at t i)) && not (eqb m r))
              (λ m. ltb i m && is_kept t m n && one_frame t i m && eqb (key_at t m) (key_at t i)) n
              (λ m y. other i b m) in
              omega arith
        ]
      where
        other : (i : ℕ) → (one_frame t i n && eqb key (key_at t i)) ≡ false → (m : ℕ) → ((ltb i m && is_kept t m n && one_frame t i m && eqb (key_at t m) (key_at t i)) && not (eqb m r)) ≡ (ltb i m && is_kept t m n && one_frame t i m && eqb (key_at t m) (key_at t i))
        other i b m = both_ways _ _ (λ y. (and_parts _ _ y).0) (λ y. and_from _ _ y
            (not_from_false (eqb m r) (ne_eqb m r (λ e.
            let z = later-true t i m n y in
            let f : one_frame t i r ≡ true = subst (λ x. one_frame t i x ≡ true) e z.frame in
            let g : i < r = subst (λ x. i < x) e z.after in
            let k : key_at t r ≡ key_at t i = subst (λ x. key_at t x ≡ key_at t i) e z.key in
            true≢false (sym (and_from (one_frame t i n) (eqb key (key_at t i)) (frame-over t i r n g below f newest-frame) (eq-eqb _ _ (sym newest-key ∙ k))) ∙ b)))))

    pub counted-release : Counted t (suc n)
    counted-release = record {
      sum = λ i h.
          let k = is_kept-true t i (suc n) h in
          elim (cases_lt i n) [
            | inl l ↦ counted-old i l h
            | inr l ↦ let b = k.before in let e : i ≡ n = omega arith in absurd (true≢false (sym (subst (λ x. is_kept t x (suc n) ≡ true) e h) ∙ not-new))
          ];
    }
