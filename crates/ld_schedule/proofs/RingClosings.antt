-- Raises of a cut to the steps of a ring's lists.
use Rattle.ld_schedule.proofs.Names.{All, All-contains, Any, AreOfOneTask, Some, get_or_append_left, get_or_push, same_Some, slice_get, slice_get-get_or, ◌+◌, ◌++◌, ◌∷◌, Contains, Contains-get_or, Forces, IsForced, IsNext, IsReached, IsSchedule, List, Step, ap, arith, cases_eq, cases_lt, get_or, get_or_default, inl, inr, length, lists_of, slice_index, subst, sym, ℕ, ◌<◌, ◌≤◌, ◌∙◌, ◌≡◌, []}
use Rattle.std.specs.Borrow.{Bor}
use Rattle.std.specs.Option.{option_map}
use Rattle.std.proofs.lemmas.Option.{slice_get-map}
use Rattle.std.specs.List.Sorted.{IsStrictlyIncreasing}
use Rattle.std.proofs.lemmas.List.{get_or-map, length-map}
use Rattle.std.proofs.lemmas.List.Kept.{AllPairs-from_increasing}

pub ascends : (xs : List ℕ) (i j : ℕ) → IsStrictlyIncreasing xs → i ≤ j → j < length xs → slice_index xs i ≤ slice_index xs j
ascends xs i j is upto within = elim (cases_eq i j) [
  | inl e ↦ let f = ap (slice_index xs) e in omega arith
  | inr differ ↦ let p = AllPairs-from_increasing xs is i j 0 (omega arith) within in omega arith
]

-- a list behind a reference is one of the lists
pub lists_at : (ring : List (Bor (List ℕ))) (k : ℕ) (d : Bor (List ℕ)) → k < length ring →
    Contains (lists_of ring) (get_or ring k d).now
lists_at ring k d within =
    let f : Bor (List ℕ) → List ℕ = λ list. list.now in
    let e : get_or (lists_of ring) k [] ≡ (get_or ring k d).now = get_or-map f ring k d [] within in
    subst (Contains (lists_of ring)) e (Contains-get_or (lists_of ring) k [] (omega (arith, length-map ring f)))

module _ (Kept : ℕ → Type 0) (h : List Step) (ring : List (List ℕ)) (list : List ℕ) (one : AreOfOneTask h list)
    (among : Contains ring list) (cut : List ℕ) (forced : IsForced Kept h ring cut) (place : ℕ)
    (lower : (k : ℕ) → k < place → slice_index list k < slice_index cut one.task) where
  -- the list's step that is next isn't before the place
  next_later : (s : List ℕ) → IsSchedule Kept h s → All (Any (IsNext h s)) ring →
      (k : ℕ) × (place ≤ k) × (k < length list) × IsNext h s (slice_index list k)
  next_later s is next =
      let (k, x, within, e, n) = All-contains (Any (IsNext h s)) ring list next among in
      let x_is : x ≡ slice_index list k = sym e ∙ get_or_default list k x 0 within in
      let n' : IsNext h s (slice_index list k) = subst (IsNext h s) x_is n in
      elim (cases_lt k place) [
        | inl before ↦ absurd (n'.is_new (forced one.task s is next (slice_index list k) (lower k before) (one.each k 0 within)))
        | inr late ↦ (k, late, within, n')
      ]

  pub forced_place : Forces Kept h ring one.task (slice_index list place)
  forced_place s is next q less of_q =
      let (k, late, within, n) = next_later s is next in
      let upto = ascends list place k one.ascend late within in
      n.follows q one.task (omega arith) of_q (one.each k 0 within)

  pub none_left : length list ≤ place → ¬ IsReached Kept h ring
  none_left past reached =
      let (k, late, within, n) = next_later reached.schedule reached.is_schedule reached.next in omega arith

-- the list with this number
pub list_is : (ring : List (Bor (List ℕ))) (k : ℕ) (e : Bor (List ℕ)) (d : List ℕ) → k < length ring →
    slice_get (lists_of ring) k ≡ Some d → (get_or ring k e).now ≡ d
list_is ring k e d within is =
    let f : Bor (List ℕ) → List ℕ = λ list. list.now in
    let at : slice_get (lists_of ring) k ≡ Some (get_or ring k e).now =
    slice_get-map f ring k ∙ ap (option_map f) (slice_get-get_or ring k e within) in
    same_Some _ _ (sym at ∙ is)

-- one step more of as many lists
pub one_of_each_more : (ring : List (Bor (List ℕ))) (steps : List ℕ) (k step : ℕ) (e : Bor (List ℕ)) → k < length ring →
    length steps ≡ k →
    ((j : ℕ) (d : List ℕ) → j < k → slice_get (lists_of ring) j ≡ Some d → Contains d (slice_index steps j)) →
    Contains (get_or ring k e).now step → (j : ℕ) (d : List ℕ) → j < k + 1 → slice_get (lists_of ring) j ≡ Some d →
    Contains d (slice_index (steps ++ step ∷ []) j)
one_of_each_more ring steps k step e within many each among j d upto is = elim (cases_lt j k) [
  | inl before ↦
      let same : slice_index (steps ++ step ∷ []) j ≡ slice_index steps j = get_or_append_left steps (step ∷ []) 0 j (omega arith) in
      subst (Contains d) (sym same) (each j d before is)
  | inr late ↦
      let here : j ≡ k = omega arith in
      let at : slice_index (steps ++ step ∷ []) j ≡ step = ap (slice_index (steps ++ step ∷ [])) here ∙ get_or_push steps step 0 k many in
      let d_is = list_is ring k e d within (ap (slice_get (lists_of ring)) (sym here) ∙ is) in
      subst (Contains d) (sym at) (subst (λ x. Contains x step) d_is among)
]
