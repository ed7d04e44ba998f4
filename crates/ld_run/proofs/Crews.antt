-- What all workers of a board return together.
use Rattle.ld_run.proofs.Names.{[], ◌++◌, ◌+◌, ◌<◌, ◌∙◌, ◌∷◌, ◌≡◌, ◌≤◌, ◌⊎◌, All, Any, Any-cases, Any-here, Any-later, Any-push, AreSame, Bool, Contains, Contains-head, Event, Every, Fact, FactParts, HasBeforeFault, HasDrawn, HasFact, HasWorked, Holds, IsFalse, IsRefused, IsTally, KnowsFact, LeastRefusedIs, List, None, OfSome, Option, PutHas, Seat, SeenHas, Some, SomeHasDrawn, StepAt, View, Worked, ap, append-nil, arith, cases_eq, cases_lt, claims_of, cond, earlier_refused, eq-eqb, inl, inr, le-ltb, length, lt-ltb, map, ne_eqb, newcomer, none_has, once_below, slice_get, slice_get_within, slice_index_or, subst, sym, times, times_append, view, ℕ}
use Rattle.std.proofs.lemmas.Bool.Decides.{nat_tests}
use Rattle.ld_run.proofs.Working.{Contains-cases, Contains-later, least-same, no_member}

-- ---- the first refused of two parts of the traces
module _ (traces : List (List Event)) (IsMine IsOther : ℕ → Type 0) where
  abbrev Both : ℕ → Type 0
  Both i = IsMine i ⊎ IsOther i

  of_mine : (found : ℕ × StepAt) → IsRefused traces IsMine found → IsRefused traces Both found
  of_mine found is = record { refused = is.refused; is_mine = inl is.is_mine; at = is.at; fault = is.fault }

  of_other : (found : ℕ × StepAt) → IsRefused traces IsOther found → IsRefused traces Both found
  of_other found is = record { refused = is.refused; is_mine = inr is.is_mine; at = is.at; fault = is.fault }

  pub least-both : (a b : Option (ℕ × StepAt)) → LeastRefusedIs traces IsMine a → LeastRefusedIs traces IsOther b → LeastRefusedIs traces Both (earlier_refused a b)
  least-both None None well well' = λ i u mine at. elim mine [ inl m ↦ well i u m at | inr m ↦ well' i u m at ]
  least-both None (Some second) well least = (
    of_other second least.0,
    (λ i u (mine, less) at. elim mine [ inl m ↦ well i u m at | inr m ↦ least.1 i u (m, less) at ]),
  )
  least-both (Some first) None least well = (
    of_mine first least.0,
    (λ i u (mine, less) at. elim mine [ inl m ↦ least.1 i u (m, less) at | inr m ↦ well i u m at ]),
  )
  least-both (Some first) (Some second) least least' = elim (cases_lt second.0 first.0) [
    | inl less ↦ subst (λ b. LeastRefusedIs traces Both (Some (cond b second first))) (sym (lt-ltb second.0 first.0 less)) (
      of_other second least'.0,
      (λ i u (mine, below) at. elim mine [ inl m ↦ least.1 i u (m, omega (arith, below, less)) at | inr m ↦ least'.1 i u (m, below) at ]),
    )
    | inr early ↦ subst (λ b. LeastRefusedIs traces Both (Some (cond b second first))) (sym (le-ltb second.0 first.0 early)) (
      of_mine first least.0,
      (λ i u (mine, below) at. elim mine [ inl m ↦ least.1 i u (m, below) at | inr m ↦ least'.1 i u (m, omega (arith, below, early)) at ]),
    )
  ]

-- one more worker
pub least-push : (traces : List (List Event)) (ws : List Worked) (w : Worked) (refused : Option (ℕ × StepAt)) → LeastRefusedIs traces (SomeHasDrawn ws) refused → LeastRefusedIs traces (HasDrawn w) w.refused → LeastRefusedIs traces (SomeHasDrawn (ws ++ w ∷ [])) (earlier_refused refused w.refused)
least-push traces ws w refused so_far its =
    least-same traces (λ i. SomeHasDrawn ws i ⊎ HasDrawn w i) (SomeHasDrawn (ws ++ w ∷ []))
    (λ i l. let p = Any-push (λ v. HasDrawn v i) ws w in (p.1, p.0))
    (earlier_refused refused w.refused) (least-both traces (SomeHasDrawn ws) (HasDrawn w) refused w.refused so_far its)

-- ---- who has claimed a number
Contains-from_times : (x : ℕ) (xs : List ℕ) → 0 < times x xs → Contains xs x
Contains-from_times x [] h = absurd (omega (arith, h))
Contains-from_times x (y ∷ ys) h = elim (cases_eq x y) [
  | inl e ↦ subst (λ z. Contains (y ∷ ys) z) (sym e) (Contains-head y ys)
  | inr ne ↦ Contains-later y x ys (Contains-from_times x ys (let t = ap (λ (b : Bool). cond b 1 0 + times x ys) (ne_eqb x y ne) in omega (arith, t, h)))
]

times-from_Contains : (x : ℕ) (xs : List ℕ) → Contains xs x → 0 < times x xs
times-from_Contains x [] m = absurd (no_member x m)
times-from_Contains x (y ∷ ys) m = elim (Contains-cases y x ys m) [
  | inl e ↦ (let t = ap (λ (b : Bool). cond b 1 0 + times x ys) (eq-eqb x y (sym e)) in omega (arith, t))
  | inr r ↦ (let h = times-from_Contains x ys r in omega (arith, h))
]

somebody : (x : ℕ) (ss : List Seat) → 0 < times x (claims_of ss) → Any (λ s. Contains (view s).claimed x) ss
somebody x [] h = absurd (omega (arith, h))
somebody x (s ∷ ss) h = elim (cases_eq (times x (view s).claimed) 0) [
  | inr some ↦ Any-here (λ t. Contains (view t).claimed x) s ss (Contains-from_times x (view s).claimed (omega (arith, some)))
  | inl none ↦ Any-later (λ t. Contains (view t).claimed x) s ss (somebody x ss (let a = times_append x (claims_of ss) (view s).claimed in omega (arith, a, h, none)))
]

among_all : (x : ℕ) (ss : List Seat) → Any (λ s. Contains (view s).claimed x) ss → 0 < times x (claims_of ss)
among_all x [] (k, s, l, e, h) = absurd (omega (arith, l))
among_all x (s ∷ ss) any =
    let a = times_append x (claims_of ss) (view s).claimed in
    elim (Any-cases (λ t. Contains (view t).claimed x) s ss any) [
      | inl here ↦ (let t = times-from_Contains x (view s).claimed here in omega (arith, a, t))
      | inr others ↦ (let t = among_all x ss others in omega (arith, a, t))
    ]

below_is_once : (x n : ℕ) → x < n → once_below x n ≡ 1
below_is_once x n h = grind (arith, nat_tests)

once_is_below : (x n : ℕ) → 0 < once_below x n → x < n
once_is_below x n h = grind (arith, nat_tests)

Any-unmap : {X Y : Type 0} (f : X → Y) (P : Y → Type 0) (xs : List X) → Any P (map f xs) → Any (λ x. P (f x)) xs
Any-unmap f P [] (k, y, l, e, h) = absurd (omega (arith, l))
Any-unmap f P (x ∷ xs) any = elim (Any-cases P (f x) (map f xs) any) [
  | inl here ↦ Any-here (λ z. P (f z)) x xs here
  | inr others ↦ Any-later (λ z. P (f z)) x xs (Any-unmap f P xs others)
]

Any-map : {X Y : Type 0} (f : X → Y) (P : Y → Type 0) (xs : List X) → Any (λ x. P (f x)) xs → Any P (map f xs)
Any-map f P [] (k, y, l, e, h) = absurd (omega (arith, l))
Any-map f P (x ∷ xs) any = elim (Any-cases (λ z. P (f z)) x xs any) [
  | inl here ↦ Any-here P (f x) (map f xs) here
  | inr others ↦ Any-later P (f x) (map f xs) (Any-map f P xs others)
]

-- ---- what one worker of a run has done
abbrev pub IsDone : (keys : ℕ) → List (List Event) → Worked → Type 0
IsDone keys traces w = HasWorked keys traces (newcomer 1) w × IsFalse w.lost

-- the numbers that it drew are those that it has claimed
claims_are : (keys : ℕ) (traces : List (List Event)) (w : Worked) (h : HasWorked keys traces (newcomer 1) w) → (view w.seat).claimed ≡ h.drawn
claims_are keys traces w h = h.claimed ∙ append-nil h.drawn

-- its last number is no trace's place
abbrev HasPast : List (List Event) → Worked → Type 0
HasPast traces w = (last : ℕ) × HasDrawn w last × (length traces ≤ last)

has_past : (keys : ℕ) (traces : List (List Event)) (w : Worked) → IsDone keys traces w → HasPast traces w
has_past keys traces w (h, f) =
    let fin = h.finished f in
    (fin.last, subst (λ xs. Contains xs fin.last) (sym (claims_are keys traces w h ∙ fin.drawn_are)) (Contains-head fin.last fin.before), fin.past)

first_has_past : (keys : ℕ) (traces : List (List Event)) (ws : List Worked) → 0 < length ws → All (IsDone keys traces) ws → Any (HasPast traces) ws
first_has_past keys traces [] some all = absurd (omega (arith, some))
first_has_past keys traces (w ∷ ws) some all = Any-here (HasPast traces) w ws (has_past keys traces w (all 0 w (omega arith)))

-- it has put or seen what a trace that it drew has
its_knows : (keys : ℕ) (traces : List (List Event)) (i : ℕ) (t : List Event) (x : Fact) (w : Worked) → slice_get traces i ≡ Some t → HasBeforeFault t x → HasDrawn w i → IsDone keys traces w → KnowsFact keys (view w.seat) x
its_knows keys traces i t x w at has drew (h, f) = (h.finished f).knows x (i, t, subst (λ xs. Contains xs i) (claims_are keys traces w h) drew, at, has)

-- it has put nothing else
its_put : (keys : ℕ) (traces : List (List Event)) (x : Fact) (w : Worked) → PutHas keys (view w.seat) x → IsDone keys traces w → OfSome traces Every (λ t. HasBeforeFault t x)
its_put keys traces x w p (h, f) = elim (h.puts.only x p) [
  | inl old ↦ absurd (none_has keys x old)
  | inr (i, t, mine, at, has) ↦ (i, t, tt, at, has)
]

its_least : (keys : ℕ) (traces : List (List Event)) (w : Worked) → IsDone keys traces w → LeastRefusedIs traces (HasDrawn w) w.refused
its_least keys traces w (h, f) = subst (λ xs. LeastRefusedIs traces (Contains xs) w.refused) (sym (claims_are keys traces w h)) (h.finished f).least

-- ---- a closed board
-- all seats but one were the workers', and that one did nothing
abbrev pub seats_of : Seat → List Worked → List Seat
seats_of mine done = mine ∷ map (λ w. w.seat) done

module _ (keys : ℕ) (traces : List (List Event)) (mine : Seat) (done : List Worked) (idle : view mine ≡ newcomer 1) (some : 0 < length done) (are_done : All (IsDone keys traces) done) where
  -- what the other seats have, workers have
  of_worker : (P : Seat → Type 0) → ¬ P mine → Any P (seats_of mine done) → Any (λ w. P w.seat) done
  of_worker P not_mine any = elim (Any-cases P mine (map (λ w. w.seat) done) any) [
    | inl m ↦ absurd (not_mine m)
    | inr o ↦ Any-unmap (λ w. w.seat) P done o
  ]

  of_seat : (P : Seat → Type 0) → Any (λ w. P w.seat) done → Any P (seats_of mine done)
  of_seat P any = Any-later P mine (map (λ w. w.seat) done) (Any-map (λ w. w.seat) P done any)

  module _ (claimed : (n : ℕ) × ((x : ℕ) → times x (claims_of (seats_of mine done)) ≡ once_below x n)) where
    -- every trace was drawn
    all_drawn : (i : ℕ) → i < length traces → SomeHasDrawn done i
    all_drawn i l =
        let n : ℕ = claimed.0 in
        let (k, w, lk, e, past) = first_has_past keys traces done some are_done in
        let last : ℕ = past.0 in
        let there = among_all last (seats_of mine done) (of_seat (λ s. Contains (view s).claimed last) (k, w, lk, e, past.1)) in
        let high : last < n = once_is_below last n (subst (λ m. 0 < m) (claimed.1 last) there) in
        let far : length traces ≤ last = past.2 in
        let one : times i (claims_of (seats_of mine done)) ≡ 1 = claimed.1 i ∙ below_is_once i n (omega (arith, l, high, far)) in
        of_worker (λ s. Contains (view s).claimed i) (λ m. no_member i (subst (λ (v : View). Contains v.claimed i) idle m))
        (somebody i (seats_of mine done) (omega (arith, one)))

    pub least_of_all : (refused : Option (ℕ × StepAt)) → (All (λ w. LeastRefusedIs traces (HasDrawn w) w.refused) done → LeastRefusedIs traces (SomeHasDrawn done) refused) → LeastRefusedIs traces Every refused
    least_of_all refused found =
        least-same traces (SomeHasDrawn done) Every (λ i l. ((λ _. tt), (λ _. all_drawn i l))) refused
        (found (λ k d l. its_least keys traces (slice_index_or done k d) (are_done k d l)))

    pub facts_of_all : (facts : FactParts) → AreSame (HasFact facts) (λ x. Any (λ s. PutHas keys (view s) x) (seats_of mine done))
        → Holds (HasFact facts) (λ x. Any (λ s. SeenHas keys (view s) x) (seats_of mine done))
        → AreSame (HasFact facts) (λ x. OfSome traces Every (λ t. HasBeforeFault t x))
    facts_of_all facts put seen x = (
      (λ h.
          let (k, w, l, e, p) = of_worker (λ s. PutHas keys (view s) x) (λ m. none_has keys x (subst (λ (v : View). PutHas keys v x) idle m)) ((put x).0 h) in
          its_put keys traces x w p (subst (IsDone keys traces) e (are_done k w l))),
      (λ (i, t, every, at, has).
          let (k, w, l, e, drew) = all_drawn i (slice_get_within traces i t at) in
          elim (its_knows keys traces i t x w at has drew (subst (IsDone keys traces) e (are_done k w l))) [
            | inl p ↦ (put x).1 (of_seat (λ s. PutHas keys (view s) x) (k, w, l, e, p))
            | inr s ↦ seen x (of_seat (λ s. SeenHas keys (view s) x) (k, w, l, e, s))
          ]),
    )

-- so the closed board's facts and the first refused trace are the tally of all traces
pub tally_of_all : (keys : ℕ) (traces : List (List Event)) (mine : Seat) (done : List Worked) (back : List Seat) (facts : FactParts) (refused : Option (ℕ × StepAt)) → back ≡ seats_of mine done
    → view mine ≡ newcomer 1 → 0 < length done → All (IsDone keys traces) done
    → AreSame (HasFact facts) (λ x. Any (λ s. PutHas keys (view s) x) back)
    → Holds (HasFact facts) (λ x. Any (λ s. SeenHas keys (view s) x) back)
    → (n : ℕ) × ((x : ℕ) → times x (claims_of back) ≡ once_below x n)
    → (All (λ w. LeastRefusedIs traces (HasDrawn w) w.refused) done → LeastRefusedIs traces (SomeHasDrawn done) refused)
    → IsTally traces facts refused
tally_of_all keys traces mine done back facts refused is idle some are_done put seen claimed found =
    let all = subst (λ (ss : List Seat). (n : ℕ) × ((x : ℕ) → times x (claims_of ss) ≡ once_below x n)) is claimed in
    record {
      facts_are = facts_of_all keys traces mine done idle some are_done all facts
          (subst (λ (ss : List Seat). AreSame (HasFact facts) (λ x. Any (λ s. PutHas keys (view s) x) ss)) is put)
          (subst (λ (ss : List Seat). Holds (HasFact facts) (λ x. Any (λ s. SeenHas keys (view s) x) ss)) is seen);
      refused_is = least_of_all keys traces mine done idle some are_done all refused found;
    }
