-- The positions of the locks that a task keeps, together with its state.
use Rattle.ld_task.proofs.Names.{[], ◌&&◌, ◌++◌, ◌+◌, ◌<◌, ◌∙◌, ◌∷◌, ◌≡◌, ◌≤◌, Acquire, Bool, ChainParts, Does, DoesPlaced, Enter, Err, Event, GoesOnPlaced, IsPlacedAfter, IsTrue, IsWellFormed, KeptLock, Leave, List, None, Ok, Option, PlacedParts, Release, Result, Some, StepFault, TurnOff, TurnOn, ap, append-nil, arith, cases_Bool, drop, eqb, event, false, fault, filter, get_or, gives_back, held_positions, if◌then◌else◌, inl, inr, is_acquire, is_at, is_enter, is_leave, is_of, kept_lock_at, kept_positions, length, length-map, length-remove, level_of, makes_chain, map, newest, not, option_and_then, option_map, passes, places_after, places_at, refl, refusal, remove, slice_get, slice_get-map, subst, suc, sym, take, takes, true, true≢false, without_place, zero, ℕ}
use Rattle.std.specs.Prelude.{OnErr}
use Rattle.ld_task.specs.EndState.{state_at}
use Rattle.ld_task.specs.Frames.{depth}
use Rattle.ld_task.specs.Held.{is_kept, is_held}
use Rattle.ld_task.specs.Inside.Machine.{last_place}
use Rattle.ld_task.specs.Positions.{last_below, positions_below}
use Rattle.ld_task.specs.WellFormed.{fault_of}
use Rattle.ld_task.proofs.Counting.{counted, release-at}
use Rattle.ld_task.proofs.NextPosition.{AllowedTo, depth-quiet, locks-acquire}
use Rattle.ld_task.proofs.Places.{filter-append, filter-mapped, place-of, slice_get-append_left}
use Rattle.ld_task.proofs.PositionLemmas.{last_below-cong, positions_below-cong}
use Rattle.ld_task.proofs.Prefixes.{allowed-before, chain-here, state-here, steps-go_on}
use Rattle.ld_task.proofs.Releases.{locks-release}
use Rattle.ld_task.proofs.StateSteps.{is_held-at, is_of-at, locks-stay, lower, no-deeper, outer_level, refusal-is}
use Rattle.ld_task.proofs.TraceSteps.{does-steps}

-- ---- a position for each lock
-- the positions from place i on begin with that at i, if its lock was taken at the level
places_at-drop : (level : ℕ) (locks : List KeptLock) (places : List ℕ) (i : ℕ) (k : KeptLock) (d : ℕ) → length places ≡ length locks → slice_get locks i ≡ Some k →
    places_at level (drop i locks) (drop i places) ≡
    (if is_at level k then get_or places i d ∷ places_at level (drop (suc i) locks) (drop (suc i) places)
    else places_at level (drop (suc i) locks) (drop (suc i) places))
places_at-drop level [] places i k d same at = absurd (cc)
places_at-drop level (x ∷ xs) [] i k d same at = absurd (omega (arith, same))
places_at-drop level (x ∷ xs) (p ∷ ps) zero k d same at = let e : x ≡ k = cc in rw (sym e) refl
places_at-drop level (x ∷ xs) (p ∷ ps) (suc i) k d same at = places_at-drop level xs ps i k d (omega (arith, same)) at

module _ (level : ℕ) (locks : List KeptLock) (places : List ℕ) (i : ℕ) (k : KeptLock) (same : length places ≡ length locks) (at : slice_get locks i ≡ Some k) where
  next : i + 1 ≡ suc i
  next = omega arith

  abbrev rest : List ℕ
  rest = places_at level (drop (suc i) locks) (drop (suc i) places)

  passed : is_at level k ≡ false → places_at level (drop i locks) (drop i places) ≡ rest
  passed miss = places_at-drop level locks places i k 0 same at ∙ ap (λ b. if b then get_or places i 0 ∷ rest else rest) miss

  taken : (d : ℕ) → is_at level k ≡ true → places_at level (drop i locks) (drop i places) ≡ get_or places i d ∷ rest
  taken d hit = places_at-drop level locks places i k d same at ∙ ap (λ b. if b then get_or places i d ∷ rest else rest) hit

  -- what is searched for stays the same if a lock of another level is passed
  pub slice_get-pass : (left : ℕ) → is_at level k ≡ false →
      slice_get (places_at level (drop i locks) (drop i places)) left ≡ slice_get (places_at level (drop (i + 1) locks) (drop (i + 1) places)) left
  slice_get-pass left miss = rw next (ap (λ xs. slice_get xs left) (passed miss))

  -- its number is one less if one of the level is
  pub slice_get-count : (left : ℕ) → is_at level k ≡ true →
      slice_get (places_at level (drop i locks) (drop i places)) (suc left) ≡ slice_get (places_at level (drop (i + 1) locks) (drop (i + 1) places)) left
  slice_get-count left hit = rw next (ap (λ xs. slice_get xs (suc left)) (taken 0 hit))

-- positions, each for what it maps to
places_at-mapped : (level : ℕ) (f : ℕ → KeptLock) (xs : List ℕ) → places_at level (map f xs) xs ≡ filter (λ i. is_at level (f i)) xs
places_at-mapped level f [] = refl
places_at-mapped level f (x ∷ xs) =
    elim (cases_Bool (is_at level (f x))) [
      | inl hit ↦ rw (hit, places_at-mapped level f xs) refl
      | inr miss ↦ rw (miss, places_at-mapped level f xs) refl
    ]

map-itself : (xs : List ℕ) → map (λ x. x) xs ≡ xs
map-itself [] = refl
map-itself (x ∷ xs) = ap (λ ys. x ∷ ys) (map-itself xs)

filter-positions : (q p : ℕ → Bool) (n : ℕ) → filter q (positions_below n p) ≡ positions_below n (λ i. p i && q i)
filter-positions q p n = ap (filter q) (sym (map-itself (positions_below n p))) ∙ filter-mapped q (λ i. i) p n ∙ map-itself (positions_below n (λ i. p i && q i))

passes-map : (q : KeptLock → Bool) (f : ℕ → KeptLock) (o : Option ℕ) → passes q (option_map f o) ≡ passes (λ i. q (f i)) o
passes-map q f None = refl
passes-map q f (Some i) = refl

last_place-map : (q : KeptLock → Bool) (f : ℕ → KeptLock) (xs : List ℕ) → last_place q (map f xs) ≡ last_place (λ i. q (f i)) xs
unfolding last_place
last_place-map q f xs =
    ap (λ n. last_below n (λ i. passes q (slice_get (map f xs) i))) (length-map xs f)
    ∙ last_below-cong (λ i. passes q (slice_get (map f xs) i)) (λ i. passes (λ k. q (f k)) (slice_get xs i)) (length xs)
    (λ i l. ap (passes q) (slice_get-map f xs i) ∙ passes-map q f (slice_get xs i))

-- ---- the kept positions change as the code says
module _ (t : List Event) (n : ℕ) (a : AllowedTo t n) where
  kept-release : (key : ℕ) → event t n ≡ Some (Release key) → fault t n ≡ None →
      kept_positions t (suc n) ≡ without_place (kept_positions t n) (newest (state_at t n) key)
  unfolding state_at
  kept-release key e ok =
      let x = release-at t n key e ok in
      let q : KeptLock → Bool = is_of (level_of (state_at t n)) key in
      let same = last_below-cong (λ i. is_held t i n && takes key (event t i)) (λ i. is_kept t i n && q (kept_lock_at t i)) n (λ i l. is_of-at t n a key i) in
      let k = place-of (λ i. q (kept_lock_at t i)) (λ i. i) (λ i. is_kept t i n) n x.0 (sym same ∙ x.1.newest) in
      let place : newest (state_at t n) key ≡ Some k.0 =
      last_place-map q (kept_lock_at t) (kept_positions t n)
      ∙ ap (last_place (λ i. q (kept_lock_at t i))) (sym (map-itself (kept_positions t n))) ∙ k.1.place in
      locks-release t n key x.0 (counted t n a) x.1
      ∙ sym (map-itself (positions_below n (λ i. is_kept t i n && not (eqb i x.0))))
      ∙ k.1.rest ∙ ap (λ xs. remove xs k.0) (map-itself (kept_positions t n))
      ∙ ap (without_place (kept_positions t n)) (sym place)

  pub kept_positions-next : (e : Event) → event t n ≡ Some e → fault t n ≡ None → kept_positions t (suc n) ≡ places_after (state_at t n) (kept_positions t n) n e
  kept_positions-next (Acquire mode key) e ok = locks-acquire t n key mode e
  kept_positions-next (Release key) e ok = kept-release key e ok
  kept_positions-next (Enter irq) e ok = locks-stay t n a (ap is_acquire e) (λ k. ap (gives_back k) e) (λ i h. enter irq e i h)
    where
      enter : (irq : _) → event t n ≡ Some (Enter irq) → (i : ℕ) → is_kept t i n ≡ true → depth t i ≤ depth t (suc n)
      enter irq e i h = let x = no-deeper t n a i h in let d = Rattle.ld_task.proofs.NextPosition.depth-enter t n a (ap is_enter e) (ap is_leave e) in omega (arith, x, d)
  kept_positions-next Leave e ok = locks-stay t n a (ap is_acquire e) (λ k. ap (gives_back k) e) (λ i h.
      let x = lower t n a e ok i h in let d = Rattle.ld_task.proofs.NextPosition.depth-leave t n (ap is_enter e) (ap is_leave e) in omega (arith, x, d))
  kept_positions-next (TurnOn irq) e ok = locks-stay t n a (ap is_acquire e) (λ k. ap (gives_back k) e) (λ i h.
      let x = no-deeper t n a i h in let d = depth-quiet t n (ap is_enter e) (ap is_leave e) in omega (arith, x, d))
  kept_positions-next (TurnOff irq) e ok = locks-stay t n a (ap is_acquire e) (λ k. ap (gives_back k) e) (λ i h.
      let x = no-deeper t n a i h in let d = depth-quiet t n (ap is_enter e) (ap is_leave e) in omega (arith, x, d))

  -- the held ones are those of the level
  held_positions-are : held_positions t n ≡ filter (λ i. is_at (level_of (state_at t n)) (kept_lock_at t i)) (kept_positions t n)
  held_positions-are =
      let q : ℕ → Bool = λ i. is_at (level_of (state_at t n)) (kept_lock_at t i) in
      positions_below-cong (λ i. is_held t i n) (λ i. is_kept t i n && q i) n (λ i l. rw (outer_level t n a) (is_held-at t n a i))
      ∙ sym (filter-positions q (λ i. is_kept t i n) n)

-- ---- a step
module _ (t : List Event) (n : ℕ) (e : Event) (here : slice_get t n ≡ Some e) (old new : PlacedParts) (is : IsPlacedAfter t n old) where
  abbrev well : IsWellFormed (take n t)
  well = is.state.well_formed

  state-is : old.state ≡ state_at t n
  state-is = is.state.is_end ∙ state-here t n e here

  placed-steps : (answer : Option ChainParts) → Does old.state e new.state (Ok answer) → new.places ≡ places_after old.state old.places n e →
      GoesOnPlaced t n new (Ok answer)
  unfolding fault_of
  placed-steps answer does places =
      let a = allowed-before t n e here well in
      let step = does-steps old.state new.state e (Ok answer) does (take n t) well is.state.is_end in
      let goes = steps-go_on t n e here new.state (Ok answer) well step in
      let ok : fault t n ≡ None = ap (option_and_then (fault_of t n)) here ∙ sym (refusal-is t n a e) ∙ ap (λ s. refusal s e) (sym state-is) ∙ does.0 in
      let one : suc n ≡ n + 1 = omega arith in
      let kept : new.places ≡ kept_positions t (n + 1) =
      places ∙ ap (λ s. places_after s old.places n e) state-is ∙ ap (λ xs. places_after (state_at t n) xs n e) is.places
      ∙ sym (kept_positions-next t n a e here ok) ∙ ap (kept_positions t) one in
      (record { state = goes.0; places = kept }, step.2 ∙ chain-here t n e here)

  placed-refused : (fault : StepFault) → Does old.state e new.state (Err fault) → GoesOnPlaced t n new (Err fault)
  placed-refused fault does =
      steps-go_on t n e here new.state (Err fault) well (does-steps old.state new.state e (Err fault) does (take n t) well is.state.is_end)

  pub placed-does : (r : Result (Option ChainParts) StepFault) → DoesPlaced old n e new r → GoesOnPlaced t n new r
  placed-does (Ok answer) does = placed-steps answer does.0 does.1
  placed-does (Err fault) does = placed-refused fault does.0

-- a refused event changes nothing
pub placed-keeps : (old : PlacedParts) (n : ℕ) (e : Event) (new : PlacedParts) (r : Result (Option ChainParts) StepFault) → DoesPlaced old n e new r → OnErr r (new ≡ old)
placed-keeps old n e new (Ok answer) does = tt
placed-keeps old n e new (Err fault) does = λ i. record { state = does.0.1 i; places = does.2 i }

-- equally many are left of both
pub length-without : (places places' : List ℕ) (locks locks' : List KeptLock) (k : ℕ) → length places ≡ length locks → k < length locks →
    places' ≡ remove places k → locks' ≡ remove locks k → length places' ≡ length locks'
length-without places places' locks locks' k same within p l =
    omega (arith, same, ap length p, ap length l, length-remove places k (omega (arith, same, within)), length-remove locks k within)

-- ---- what is held at an event that makes a chain, by the state after it
module _ (t : List Event) (j : ℕ) (e : Event) (here : slice_get t j ≡ Some e) (placed : PlacedParts) (is : IsPlacedAfter t (j + 1) placed) where
  one : j + 1 ≡ suc j
  one = omega arith

  all : AllowedTo t (suc j)
  all = Rattle.ld_task.proofs.Prefixes.allowed-through t j e here (subst (λ n. IsWellFormed (take n t)) one is.state.well_formed)

  before : AllowedTo t j
  before = record { allowed = λ k l. all.allowed k (omega (arith, l)) }

  state-is' : placed.state ≡ state_at t (suc j)
  state-is' = is.state.is_end ∙ Rattle.ld_task.proofs.Prefixes.state-through t j e here ∙ ap (state_at t) one

  level-is : depth t (suc j) ≡ depth t j → level_of (state_at t (suc j)) ≡ level_of (state_at t j)
  level-is quiet = outer_level t (suc j) all ∙ quiet ∙ sym (outer_level t j before)

  module _ (m : ℕ) (within : m < length (held_positions t j)) where
    at_level : (more : List ℕ) → depth t (suc j) ≡ depth t j → kept_positions t (suc j) ≡ kept_positions t j ++ more →
        slice_get (places_at (level_of placed.state) placed.state.locks placed.places) m ≡ slice_get (held_positions t j) m
    unfolding state_at
    at_level more quiet longer =
        let q : ℕ → Bool = λ i. is_at (level_of (state_at t j)) (kept_lock_at t i) in
        let places : placed.places ≡ kept_positions t (suc j) = is.places ∙ ap (kept_positions t) one in
        let held = held_positions-are t j before in
        ap (λ s. slice_get (places_at (level_of s) s.locks placed.places) m) state-is'
        ∙ ap (λ xs. slice_get (places_at (level_of (state_at t (suc j))) (map (kept_lock_at t) (kept_positions t (suc j))) xs) m) places
        ∙ ap (λ xs. slice_get xs m) (places_at-mapped (level_of (state_at t (suc j))) (kept_lock_at t) (kept_positions t (suc j)))
        ∙ ap (λ l. slice_get (filter (λ i. is_at l (kept_lock_at t i)) (kept_positions t (suc j))) m) (level-is quiet)
        ∙ ap (λ xs. slice_get (filter q xs) m) longer
        ∙ ap (λ xs. slice_get xs m) (filter-append q (kept_positions t j) more)
        ∙ slice_get-append_left (filter q (kept_positions t j)) (filter q more) m (subst (λ xs. m < length xs) held within)
        ∙ ap (λ xs. slice_get xs m) (sym held)

    -- the place of number m among those of the level
    pub place_of_held : IsTrue (makes_chain e) → slice_get (places_at (level_of placed.state) placed.state.locks placed.places) m ≡ slice_get (held_positions t j) m
    place_of_held makes = by e here makes
      where
        by : (x : Event) → event t j ≡ Some x → IsTrue (makes_chain x) →
            slice_get (places_at (level_of placed.state) placed.state.locks placed.places) m ≡ slice_get (held_positions t j) m
        by (Acquire mode key) h makes =
            at_level (j ∷ []) (depth-quiet t j (ap is_enter h) (ap is_leave h)) (locks-acquire t j key mode h)
        by (TurnOn irq) h makes =
            let d = depth-quiet t j (ap is_enter h) (ap is_leave h) in
            at_level [] d (locks-stay t j before (ap is_acquire h) (λ k. ap (gives_back k) h) (λ i k. let x = no-deeper t j before i k in omega (arith, x, d)) ∙ sym (append-nil (kept_positions t j)))
        by (Release key) h makes = absurd (true≢false (sym makes))
        by (Enter irq) h makes = absurd (true≢false (sym makes))
        by Leave h makes = absurd (true≢false (sym makes))
        by (TurnOff irq) h makes = absurd (true≢false (sym makes))
