-- Steps of a search: what is added from one step, a dependency at a time.
use Rattle.ld_graph.proofs.Names.{[], ◌*◌, ◌++◌, ◌+◌, ◌-◌, ◌<◌, ◌∙◌, ◌∷◌, ◌≡◌, ◌≤◌, ◌⊎◌, Bool, Er, FactParts, GRAPH_KEYS, HasFact, Hits, IsNextFrom, IsTakenFrom, Kind, Leaves, LeavesFrom, List, Misses, Pushes, SearchParts, SeesAllFrom, Some, StandsAt, Step, Takes, Visits, ap, arith, arrival, cases_eq, cases_lt, false, get_or, has_bit, inl, inr, is_r, is_s, kind_number, kind_number-lt, kind_of, kind_of-number, length, length-append, place, refl, row_place, same_Some, slice_get, slice_get-get_or, stands_at, subst, suc, sym, true, zero, ℕ}
use Rattle.std.proofs.lemmas.Nat.{same_from_place}
use Rattle.ld_facts.specs.Inside.Rows.{arrow_of}
use Rattle.ld_facts.specs.declared.fact.Fact.TheVariants.{Dependency as Depends}
use Rattle.ld_facts.specs.declared.dependency.Dependency.{Dependency}
use Rattle.ld_graph.proofs.Paths.{place_parts}

-- ---- one more element
pub slice_get_pushed : {X : Type 0} (xs : List X) (x : X) (j : ℕ) (y : X) → slice_get xs j ≡ Some y → slice_get (xs ++ x ∷ []) j ≡ Some y
slice_get_pushed [] x j y h = absurd (let e : ◌≡◌ {A = _} _ (Some y) = h in cc)
slice_get_pushed (z ∷ xs) x zero y h = h
slice_get_pushed (z ∷ xs) x (suc j) y h = slice_get_pushed xs x j y h

pub slice_get_new : {X : Type 0} (xs : List X) (x : X) → slice_get (xs ++ x ∷ []) (length xs) ≡ Some x
slice_get_new [] x = refl
slice_get_new (z ∷ xs) x = slice_get_new xs x

pub slice_get_push_cases : {X : Type 0} (xs : List X) (x : X) (j : ℕ) (y : X) → slice_get (xs ++ x ∷ []) j ≡ Some y →
    (slice_get xs j ≡ Some y) ⊎ ((j ≡ length xs) × (x ≡ y))
slice_get_push_cases [] x zero y h = inr (refl, same_Some x y h)
slice_get_push_cases [] x (suc j) y h = absurd (let e : ◌≡◌ {A = _} _ (Some y) = h in cc)
slice_get_push_cases (z ∷ xs) x zero y h = inl h
slice_get_push_cases (z ∷ xs) x (suc j) y h =
    elim (slice_get_push_cases xs x j y h) [
      | inl l ↦ inl l
      | inr (e, s) ↦ inr (ap suc e, s)
    ]

-- ---- one more step
module _ (facts : FactParts) (within goal : List ℕ) (i : ℕ) (step : Step) (old mid new : SearchParts) (hit : Bool)
    (pushes : Pushes within goal step mid new hit) where
  pub seen_pushed : (q : ℕ) → has_bit mid.seen q ≡ true → has_bit new.seen q ≡ true
  seen_pushed q h = elim (cases_eq q (stands_at step)) [
    | inl e ↦ ap (has_bit new.seen) e ∙ pushes.set
    | inr ne ↦ pushes.others q ne ∙ h
  ]

  pub stands_new : StandsAt new.steps (length mid.steps) (stands_at step)
  stands_new = (step, ap (λ steps. slice_get steps (length mid.steps)) pushes.steps_are ∙ slice_get_new mid.steps step, refl)

  pub longer_by_one : length new.steps ≡ length mid.steps + 1
  longer_by_one = ap length pushes.steps_are ∙ length-append mid.steps (step ∷ [])

  pub Takes-push : Takes facts i old mid → IsTakenFrom facts old.steps i step → Takes facts i old new
  Takes-push takes taken = record {
    kept = λ j s h. ap (λ steps. slice_get steps j) pushes.steps_are ∙ slice_get_pushed mid.steps step j s (takes.kept j s h);
    longer = let a = longer_by_one in let b = takes.longer in omega arith;
    fresh = λ j s l h. elim (slice_get_push_cases mid.steps step j s (sym (ap (λ steps. slice_get steps j) pushes.steps_are) ∙ h)) [
      | inl before ↦ takes.fresh j s l before
      | inr (at, same) ↦ subst (IsTakenFrom facts old.steps i) same taken
    ];
    seen_kept = λ q h. seen_pushed q (takes.seen_kept q h);
    listed = λ q h. elim (cases_eq q (stands_at step)) [
      | inl e ↦ inr (length mid.steps, subst (StandsAt new.steps (length mid.steps)) (sym e) stands_new)
      | inr ne ↦ elim (takes.listed q (sym (pushes.others q ne) ∙ h)) [
        | inl before ↦ inl before
        | inr (j, (s, at, stands)) ↦ inr (j, (s, ap (λ steps. slice_get steps j) pushes.steps_are ∙ slice_get_pushed mid.steps step j s at, stands))
      ]
    ];
  }

-- ---- the dependencies from a step, in their row
-- those before n have been examined
pub record Scans (facts : FactParts) (within goal : List ℕ) (i : ℕ) (from : Dependency) (n : ℕ) (old new : SearchParts) : Type 0 where
  pub takes : Takes facts i old new
  pub missed : Misses goal old new
  pub sees : (to : ℕ) (kind : Kind) → row_place to kind < n → HasFact facts (Depends from.to to kind) →
      LeavesFrom from.to (is_s kind) (arrival (arrow_of from)) → has_bit within (place to (is_r kind)) ≡ true →
      has_bit new.seen (place to (is_r kind)) ≡ true

row_place-same : (a b : ℕ) (k m : Kind) → row_place a k ≡ row_place b m → (a ≡ b) × (k ≡ m)
row_place-same a b k m e =
    let split = same_from_place a (kind_number k) b (kind_number m) 4 (kind_number-lt k) (kind_number-lt m) e in
    (split.0, sym (kind_of-number k) ∙ ap kind_of split.1 ∙ kind_of-number m)

pub row_place-lt : (to : ℕ) (kind : Kind) → to < GRAPH_KEYS → row_place to kind < GRAPH_KEYS * 4
row_place-lt to kind l = let k = kind_number-lt kind in omega arith

module _ (facts : FactParts) (within goal : List ℕ) (i : ℕ) (from : Dependency) (n : ℕ) (old mid : SearchParts)
    (scans : Scans facts within goal i from n old mid) (d : Dependency) (next : IsNextFrom facts from.to n d) where
  -- one that is before the next is known, or is that one
  known_or_next : (to : ℕ) (kind : Kind) → row_place to kind < row_place d.to d.kind + 1 → HasFact facts (Depends from.to to kind) →
      (row_place to kind < n) ⊎ ((d.to ≡ to) × (d.kind ≡ kind))
  known_or_next to kind l has = elim (cases_lt (row_place to kind) n) [
    | inl before ↦ inl before
    | inr onwards ↦ elim (cases_lt (row_place to kind) (row_place d.to d.kind)) [
      | inl between ↦ absurd (next.first to kind onwards between has)
      | inr there ↦ inr (row_place-same d.to to d.kind kind (omega arith))
    ]
  ]

  -- all before it, and itself if it may follow, have been seen
  sees_next : (new : SearchParts) → ((q : ℕ) → has_bit mid.seen q ≡ true → has_bit new.seen q ≡ true) →
      (LeavesFrom from.to (is_s d.kind) (arrival (arrow_of from)) → has_bit within (place d.to (is_r d.kind)) ≡ true → has_bit new.seen (place d.to (is_r d.kind)) ≡ true) →
      (to : ℕ) (kind : Kind) → row_place to kind < row_place d.to d.kind + 1 → HasFact facts (Depends from.to to kind) →
      LeavesFrom from.to (is_s kind) (arrival (arrow_of from)) → has_bit within (place to (is_r kind)) ≡ true →
      has_bit new.seen (place to (is_r kind)) ≡ true
  sees_next new kept here to kind l has leaves inside = elim (known_or_next to kind l has) [
    | inl before ↦ kept (place to (is_r kind)) (scans.sees to kind before has leaves inside)
    | inr (et, ek) ↦ subst (λ t. has_bit new.seen (place t (is_r kind)) ≡ true) et
        (subst (λ k. has_bit new.seen (place d.to (is_r k)) ≡ true) ek
        (here (subst (λ k. LeavesFrom from.to (is_s k) (arrival (arrow_of from))) (sym ek) leaves)
        (subst (λ k. has_bit within (place d.to (is_r k)) ≡ true) (sym ek) (subst (λ t. has_bit within (place t (is_r kind)) ≡ true) (sym et) inside))))
  ]

  pub Scans-skip : ¬ LeavesFrom from.to (is_s d.kind) (arrival (arrow_of from)) → Scans facts within goal i from (row_place d.to d.kind + 1) old mid
  Scans-skip not_after = record {
    takes = scans.takes;
    missed = scans.missed;
    sees = sees_next mid (λ q h. h) (λ after. absurd (not_after after));
  }

  module _ (at : (step : Step) × (slice_get old.steps i ≡ Some step) × (step.dependency ≡ from))
      (after : LeavesFrom from.to (is_s d.kind) (arrival (arrow_of from))) where
    taken : IsTakenFrom facts old.steps i (record { dependency = d; before = i })
    taken = let (step, is, from_is) = at in (
      next.has,
      refl,
      (arrival (arrow_of from), (step, is, ap (λ x. arrival (arrow_of x)) from_is), subst (λ k. LeavesFrom k (is_s d.kind) (arrival (arrow_of from))) (sym next.from_is) after),
    )

    pub Scans-visit : (new : SearchParts) → Visits within goal (record { dependency = d; before = i }) mid new false →
        Scans facts within goal i from (row_place d.to d.kind + 1) old new
    Scans-visit new visits = elim visits [
      | inl pushes ↦ record {
        takes = Takes-push facts within goal i (record { dependency = d; before = i }) old mid new false pushes scans.takes taken;
        missed = λ q h g. elim (cases_eq q (arrival (arrow_of d))) [
          | inl e ↦ absurd (let off : false ≡ has_bit goal (arrival (arrow_of d)) = pushes.hits in let on = ap (has_bit goal) (sym e) ∙ g in cc)
          | inr ne ↦ scans.missed q (sym (pushes.others q ne) ∙ h) g
        ];
        sees = sees_next new (seen_pushed facts within goal i (record { dependency = d; before = i }) old mid new false pushes) (λ a b. pushes.set);
      }
      | inr (same, off, was) ↦ subst (Scans facts within goal i from (row_place d.to d.kind + 1) old) (sym same) (record {
        takes = scans.takes;
        missed = scans.missed;
        sees = sees_next mid (λ q h. h) (λ a inside. was inside);
      })
    ]

    pub Takes-hit : (new : SearchParts) → Visits within goal (record { dependency = d; before = i }) mid new true →
        Takes facts i old new × Hits goal old new
    Takes-hit new visits = elim visits [
      | inl pushes ↦
          let more = longer_by_one facts within goal i (record { dependency = d; before = i }) old mid new true pushes in
          let last : length mid.steps ≡ length new.steps - 1 = omega arith in (
            Takes-push facts within goal i (record { dependency = d; before = i }) old mid new true pushes scans.takes taken,
            (
              (let l = scans.takes.longer in omega arith),
              (arrival (arrow_of d), subst (λ j. StandsAt new.steps j (arrival (arrow_of d))) last (stands_new facts within goal i (record { dependency = d; before = i }) old mid new true pushes), sym pushes.hits),
            ),
          )
      | inr (same, off, was) ↦ absurd (let f : true ≡ false = off in cc)
    ]

-- if none is left, all has been seen
pub SeesAll-scanned : (facts : FactParts) (within goal : List ℕ) (i : ℕ) (from : Dependency) (n : ℕ) (old new : SearchParts) →
    Scans facts within goal i from n old new → facts.keys ≤ GRAPH_KEYS → from.to < GRAPH_KEYS →
    ((step : Step) → slice_get old.steps i ≡ Some step → step.dependency ≡ from) →
    ((to : ℕ) (kind : Kind) → n ≤ row_place to kind → ¬ HasFact facts (Depends from.to to kind)) →
    SeesAllFrom facts within i old.steps new.seen
SeesAll-scanned facts within goal i from n old new scans few below at none p q (step, is, stands) ((d, has, leaves, arrives), inside) =
    let here : p ≡ arrival (arrow_of from) = sym stands ∙ ap (λ x. arrival (arrow_of x)) (at step is) in
    let starts : d.start ≡ from.to = start_is (subst (Leaves d) here leaves) in
    let has_from : HasFact facts (Depends from.to d.end d.kind) = subst (λ k. HasFact facts (Depends k d.end d.kind)) starts has in
    let after : LeavesFrom from.to (is_s d.kind) (arrival (arrow_of from)) = subst (λ k. LeavesFrom k (is_s d.kind) (arrival (arrow_of from))) starts (subst (Leaves d) here leaves) in
    elim (cases_lt (row_place d.end d.kind) n) [
      | inl before ↦ subst (λ x. has_bit new.seen x ≡ true) arrives (scans.sees d.end d.kind before has_from after (subst (λ x. has_bit within x ≡ true) (sym arrives) inside))
      | inr later ↦ absurd (none d.end d.kind later has_from)
    ]
  where
    start_is : Leaves d (arrival (arrow_of from)) → d.start ≡ from.to
    start_is leaves = let l : d.start < facts.keys = has.0.0 in elim leaves [
      | inl e ↦ sym (place_parts from.to d.start (is_r from.kind) false below (omega arith) e).0
      | inr (e, s) ↦ sym (place_parts from.to d.start (is_r from.kind) true below (omega arith) e).0
    ]

-- ---- a step that is read
abbrev pub blank : Step
blank = record { dependency = record { from = 0; to = 0; kind = Er }; before = 0 }

pub step_read : (items steps : List Step) (i : ℕ) → items ≡ steps → i < length steps → slice_get steps i ≡ Some (get_or items i blank)
step_read items steps i same l =
    let e = ap length same in
    ap (λ xs. slice_get xs i) (sym same) ∙ slice_get-get_or items i blank (omega arith)
