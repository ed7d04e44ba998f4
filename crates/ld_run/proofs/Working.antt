-- What a worker has drawn, put and found.
use Rattle.ld_run.proofs.Names.{[], ◌++◌, ◌<◌, ◌↔◌, ◌∙◌, ◌∷◌, ◌≡◌, ◌≤◌, ◌⊎◌, All, Contains, Contains-head, DrawnHave, Event, Fact, FirstFaultIs, HasBeforeFault, HasFinished, Holds, IfSome, IsRefused, IsWellFormed, KnowsFact, LeastRefusedIs, List, None, OfSome, Option, PutsOnly, Some, StepAt, View, ap, arith, first_refused_of, inl, inr, length, refl, slice_get, slice_get_within, subst, suc, sym, with_claim, zero, ℕ}
use Rattle.ld_run.proofs.Walking.{PutsOnly-more, PutsOnly-then}

-- ---- members of a longer list
pub Contains-later : {X : Type 0} (x y : X) (xs : List X) → Contains xs y → Contains (x ∷ xs) y
Contains-later x y xs (k, l, e) = (suc k, omega (arith, l), e)

pub Contains-cases : {X : Type 0} (x y : X) (xs : List X) → Contains (x ∷ xs) y → (x ≡ y) ⊎ Contains xs y
Contains-cases x y xs (zero, l, e) = inl e
Contains-cases x y xs (suc k, l, e) = inr (k, omega (arith, l), e)

pub no_member : {X : Type 0} (x : X) → Contains [] x → ⊥
no_member x (k, l, e) = omega (arith, l)

-- ---- the first refused of some traces
module _ (traces : List (List Event)) (IsMine IsOther : ℕ → Type 0) (same : (i : ℕ) → i < length traces → IsMine i ↔ IsOther i) where
  same_one : (i : ℕ) (t : List Event) → slice_get traces i ≡ Some t → IsMine i ↔ IsOther i
  same_one i t at = same i (slice_get_within traces i t at)

  pub refused-same : (found : ℕ × StepAt) → IsRefused traces IsMine found → IsRefused traces IsOther found
  refused-same found is = record {
    refused = is.refused;
    is_mine = (same_one found.0 is.refused is.at).0 is.is_mine;
    at = is.at;
    fault = is.fault;
  }

  pub least-same : (refused : Option (ℕ × StepAt)) → LeastRefusedIs traces IsMine refused → LeastRefusedIs traces IsOther refused
  least-same None well = λ i t mine at. well i t ((same_one i t at).1 mine) at
  least-same (Some found) least = (
    refused-same found least.0,
    (λ i t mine at. least.1 i t ((same_one i t at).1 mine.0, mine.1) at),
  )

  pub OfSome-same : (P : List Event → Type 0) → OfSome traces IsMine P ↔ OfSome traces IsOther P
  OfSome-same P = (
    (λ (i, t, mine, at, has). (i, t, (same_one i t at).0 mine, at, has)),
    (λ (i, t, mine, at, has). (i, t, (same_one i t at).1 mine, at, has)),
  )

-- one that is refused, if the first is
pub refused_of : (traces : List (List Event)) (IsMine : ℕ → Type 0) (refused : Option (ℕ × StepAt)) → LeastRefusedIs traces IsMine refused → IfSome refused (IsRefused traces IsMine)
refused_of traces IsMine None well = tt
refused_of traces IsMine (Some found) least = least.0

-- of a larger set
pub refused-more : (traces : List (List Event)) (IsMine IsOther : ℕ → Type 0) → ((i : ℕ) → IsMine i → IsOther i) → (refused : Option (ℕ × StepAt)) → IfSome refused (IsRefused traces IsMine) → IfSome refused (IsRefused traces IsOther)
refused-more traces IsMine IsOther up None is = tt
refused-more traces IsMine IsOther up (Some found) is = record { refused = is.refused; is_mine = up found.0 is.is_mine; at = is.at; fault = is.fault }

-- ---- one more trace, after the others
module _ (traces : List (List Event)) (drawn : List ℕ) (n : ℕ) (t : List Event) (here : slice_get traces n ≡ Some t) where
  this_one : (u : List Event) (i : ℕ) → n ≡ i → slice_get traces i ≡ Some u → t ≡ u
  this_one u i is at = some_same (sym here ∙ ap (slice_get traces) is ∙ at)
    where
      some_same : {x y : List Event} → Some x ≡ Some y → x ≡ y
      some_same e = cc

  pub drawn-more : (P : List Event → Type 0) → (OfSome traces (Contains drawn) P ⊎ P t) ↔ OfSome traces (Contains (n ∷ drawn)) P
  drawn-more P = (
    (λ h. elim h [
      | inl (i, u, mine, at, has) ↦ (i, u, Contains-later n i drawn mine, at, has)
      | inr has ↦ (n, t, Contains-head n drawn, here, has)
    ]),
    (λ (i, u, mine, at, has). elim (Contains-cases n i drawn mine) [
      | inr m ↦ inl (i, u, m, at, has)
      | inl is ↦ inr (subst P (sym (this_one u i is at)) has)
    ]),
  )

  pub least-more : ((i : ℕ) → Contains drawn i → i < n) → (refused : Option (ℕ × StepAt)) (found : Option StepAt) → LeastRefusedIs traces (Contains drawn) refused → FirstFaultIs t found → LeastRefusedIs traces (Contains (n ∷ drawn)) (first_refused_of refused n found)
  least-more behind (Some first) found least fault = (
    record { refused = least.0.refused; is_mine = Contains-later n first.0 drawn least.0.is_mine; at = least.0.at; fault = least.0.fault },
    (λ i u (mine, less) at. elim (Contains-cases n i drawn mine) [
      | inr m ↦ least.1 i u (m, less) at
      | inl is ↦ absurd (let b = behind first.0 least.0.is_mine in omega (arith, b, is, less))
    ]),
  )
  least-more behind None (Some first) well fault = (
    record { refused = t; is_mine = Contains-head n drawn; at = here; fault = fault },
    (λ i u (mine, less) at. elim (Contains-cases n i drawn mine) [ inr m ↦ well i u m at | inl is ↦ absurd (omega (arith, is, less)) ]),
  )
  least-more behind None None well whole = λ i u mine at. elim (Contains-cases n i drawn mine) [ inr m ↦ well i u m at | inl is ↦ subst IsWellFormed (this_one u i is at) whole ]

-- ---- a worker that continues
-- the numbers drawn were claimed and the traces of their places walked; the number was claimed last
pub record IsWorking (keys : ℕ) (traces : List (List Event)) (before now : View) (drawn : List ℕ) (number : ℕ) (refused : Option (ℕ × StepAt)) : Type 0 where
  pub claimed : now.claimed ≡ number ∷ (drawn ++ before.claimed)
  pub rises : (i : ℕ) → Contains drawn i → i < number
  pub puts : PutsOnly keys before now (DrawnHave traces drawn)
  pub knows : Holds (KnowsFact keys now) (DrawnHave traces drawn)
  pub least : LeastRefusedIs traces (Contains drawn) refused

pub IsWorking-none : (keys : ℕ) (traces : List (List Event)) (before now : View) (number : ℕ) → now ≡ with_claim before number → IsWorking keys traces before now [] number None
IsWorking-none keys traces before now number is = record {
  claimed = ap (λ (v : View). v.claimed) is;
  rises = λ i m. absurd (no_member i m);
  puts = subst (λ v. PutsOnly keys before v (DrawnHave traces [])) (sym is) (claimed_only keys before number (DrawnHave traces []));
  knows = λ x (i, t, mine, at, has). absurd (no_member i mine);
  least = λ i t mine at. absurd (no_member i mine);
}
  where
    claimed_only : (keys : ℕ) (v : View) (n : ℕ) (P : Fact → Type 0) → PutsOnly keys v (with_claim v n) P
    claimed_only keys v n P = record { keeps = λ x h. h; only = λ x h. inl h; knows = λ x h. h }

module _ (keys : ℕ) (traces : List (List Event)) (before now : View) (drawn : List ℕ) (number : ℕ) (refused : Option (ℕ × StepAt)) (working : IsWorking keys traces before now drawn number refused) where
  -- a trace was walked, as far as it went
  pub walked_puts : (t : List Event) (new : View) → slice_get traces number ≡ Some t → PutsOnly keys now new (HasBeforeFault t) → PutsOnly keys before new (DrawnHave traces (number ∷ drawn))
  walked_puts t new here puts =
      let more : (x : Fact) → (DrawnHave traces drawn x ⊎ HasBeforeFault t x) ↔ DrawnHave traces (number ∷ drawn) x = λ x. drawn-more traces drawn number t here (λ u. HasBeforeFault u x) in
      PutsOnly-then keys before now new (DrawnHave traces drawn) (HasBeforeFault t) (DrawnHave traces (number ∷ drawn)) (λ x h. (more x).0 (inl h)) (λ x h. (more x).0 (inr h)) working.puts puts

  -- it was walked, and the next number drawn
  pub IsWorking-next : (t : List Event) (mid new : View) (found : Option StepAt) (next : ℕ) → slice_get traces number ≡ Some t → mid.claimed ≡ now.claimed → PutsOnly keys now mid (HasBeforeFault t)
      → Holds (KnowsFact keys mid) (HasBeforeFault t) → FirstFaultIs t found → new ≡ with_claim mid next → All (λ x. x < next) mid.claimed
      → IsWorking keys traces before new (number ∷ drawn) next (first_refused_of refused number found)
  IsWorking-next t mid new found next here same puts knows fault is rises =
      let more : (x : Fact) → (DrawnHave traces drawn x ⊎ HasBeforeFault t x) ↔ DrawnHave traces (number ∷ drawn) x = λ x. drawn-more traces drawn number t here (λ u. HasBeforeFault u x) in
      let all : mid.claimed ≡ number ∷ (drawn ++ before.claimed) = same ∙ working.claimed in
      let known : Holds (KnowsFact keys mid) (DrawnHave traces (number ∷ drawn)) = λ x h. elim ((more x).1 h) [ inl o ↦ puts.knows x (working.knows x o) | inr b ↦ knows x b ] in
      record {
        claimed = ap (λ (v : View). v.claimed) is ∙ ap (λ (l : List ℕ). next ∷ l) all;
        rises = λ i m. below_next i (subst (All (λ x. x < next)) all rises) m;
        puts = subst (λ v. PutsOnly keys before v (DrawnHave traces (number ∷ drawn))) (sym is) (let w = walked_puts t mid here puts in record { keeps = w.keeps; only = w.only; knows = w.knows });
        knows = subst (λ v. Holds (KnowsFact keys v) (DrawnHave traces (number ∷ drawn))) (sym is) known;
        least = least-more traces drawn number t here working.rises refused found working.least fault;
      }
    where
      among : (xs ys : List ℕ) (i : ℕ) → Contains xs i → Contains (xs ++ ys) i
      among [] ys i m = absurd (no_member i m)
      among (x ∷ xs) ys i m = elim (Contains-cases x i xs m) [ inl e ↦ subst (λ y. Contains (x ∷ (xs ++ ys)) y) e (Contains-head x (xs ++ ys)) | inr r ↦ Contains-later x i (xs ++ ys) (among xs ys i r) ]

      below_next : (i : ℕ) → All (λ x. x < next) (number ∷ (drawn ++ before.claimed)) → Contains (number ∷ drawn) i → i < next
      below_next i all m =
          let (k, l, e) = among (number ∷ drawn) before.claimed i m in
          subst (λ x. x < next) e (all k i l)

  -- the number is no trace's place
  pub finishes : length traces ≤ number → HasFinished keys traces (number ∷ drawn) now refused
  finishes past = record {
    last = number;
    before = drawn;
    drawn_are = refl;
    past = past;
    knows = λ x h. working.knows x ((OfSome-same traces (Contains drawn) (Contains (number ∷ drawn)) same (λ t. HasBeforeFault t x)).1 h);
    least = least-same traces (Contains drawn) (Contains (number ∷ drawn)) same refused working.least;
  }
    where
      same : (i : ℕ) → i < length traces → Contains drawn i ↔ Contains (number ∷ drawn) i
      same i l = (
        (λ m. Contains-later number i drawn m),
        (λ m. elim (Contains-cases number i drawn m) [ inr r ↦ r | inl e ↦ absurd (omega (arith, l, past, e)) ]),
      )

  pub found_among : IfSome refused (IsRefused traces (Contains (number ∷ drawn)))
  found_among = refused-more traces (Contains drawn) (Contains (number ∷ drawn)) (λ i m. Contains-later number i drawn m) refused (refused_of traces (Contains drawn) refused working.least)

  pub puts_among : PutsOnly keys before now (DrawnHave traces (number ∷ drawn))
  puts_among = PutsOnly-more keys before now (DrawnHave traces drawn) (DrawnHave traces (number ∷ drawn)) (λ x (i, t, mine, at, has). (i, t, Contains-later number i drawn mine, at, has)) working.puts
