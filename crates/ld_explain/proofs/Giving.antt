-- What the event at a place gives is what its chain gives.
use Rattle.ld_explain.proofs.Names.{◌&&◌, ◌/◌, ◌<◌, ◌∙◌, ◌≡◌, Acquire, ChainMarksNew, ChainParts, Contains, Dependency, Enter, Event, Fact, Frame, GivenBy, Gives, Irq, IsDependency, IsMarkedOpening, IsMarkedTaking, IsTrue, Kind, Leave, List, Lock, Mark, Marked, Mode, None, Option, Release, Some, TurnOff, TurnOn, and_parts, ap, arith, cases_lt, chain, event, fact_slots, false, flags_at, get_or_from_slice_get, held_by, held_positions, if◌then◌else◌, inl, inr, is_acquire, is_turn_on, key_taken, kind, kind_between, le-ltb, length, length-map, lock_at, ltb, ltb-true, makes_chain, marks_opened, marks_taken, may_wait, mode_taken, one_frame, option_and_then, option_map, positions_below-has, positions_below-pass, refl, same_Some, slice_get, slice_get-map, slice_get_within, slot_held, slots_by, subst, suc, sym, true, true≢false, ℕ}
use Rattle.ld_task.specs.Held.{is_held, is_kept}
use Rattle.ld_task.specs.TraceChains.{chain_of, held_locks_at}

-- the new lock of an acquisition's chain
new_is : (a b : Lock) (f g : Frame) → (let x : Lock × Frame = (a, f) in let y : Lock × Frame = (b, g) in Some x ≡ Some y) → a ≡ b
new_is a b f g e = ap (λ (p : Lock × Frame). p.0) (same_Some (a, f) (b, g) e)

frame_is : (a b : Lock) (f g : Frame) → (let x : Lock × Frame = (a, f) in let y : Lock × Frame = (b, g) in Some x ≡ Some y) → f ≡ g
frame_is a b f g e = ap (λ (p : Lock × Frame). p.1) (same_Some (a, f) (b, g) e)

abbrev acquisition_at : List Event → ℕ → ℕ → Mode → ChainParts
acquisition_at t j key mode = record { held_locks = held_locks_at t j; new_lock = Some (record { key = key; mode = mode }, kind t j); flags = flags_at t j }

abbrev opening_at : List Event → ℕ → ChainParts
opening_at t j = record { held_locks = held_locks_at t j; new_lock = None; flags = flags_at t (suc j) }

module _ (t : List Event) (j : ℕ) where
  -- the position of the held lock at this place
  abbrev position : Option ℕ → Option ℕ
  position held = option_and_then (slice_get (held_positions t j)) held

  -- a held lock stands at the place of its position
  lock_there : (k i : ℕ) → slice_get (held_positions t j) k ≡ Some i → slice_get (held_locks_at t j) k ≡ Some (lock_at t i)
  unfolding held_locks_at
  lock_there k i at = slice_get-map (lock_at t) (held_positions t j) k ∙ ap (option_map (lock_at t)) at

  -- and the lock at a place has a position
  pub record HasPosition (k : ℕ) (lock : Lock) : Type 0 where
    pub i : ℕ
    pub at : slice_get (held_positions t j) k ≡ Some i
    pub is_held : is_held t i j ≡ true
    pub is : lock_at t i ≡ lock

  pub position_there : (k : ℕ) (lock : Lock) → slice_get (held_locks_at t j) k ≡ Some lock → HasPosition k lock
  unfolding held_locks_at
  position_there k lock h = by (slice_get (held_positions t j) k) refl
    where
      by : (o : Option ℕ) → slice_get (held_positions t j) k ≡ o → HasPosition k lock
      by None e = absurd (let n : None ≡ Some lock = ap (option_map (lock_at t)) (sym e) ∙ sym (slice_get-map (lock_at t) (held_positions t j) k) ∙ h in cc)
      by (Some i) e =
          let s : Some (lock_at t i) ≡ Some lock = ap (option_map (lock_at t)) (sym e) ∙ sym (slice_get-map (lock_at t) (held_positions t j) k) ∙ h in
          record { i = i; at = e; is_held = (positions_below-pass (λ m. is_held t m j) j k i e).1; is = cc }

  held_before : (i : ℕ) → is_held t i j ≡ true → i < j
  unfolding is_held is_kept
  held_before i h =
      let kept = (and_parts _ (one_frame t i j) h).0 in
      let taken = (and_parts (ltb i j && is_acquire (event t i)) _ kept).0 in
      ltb-true i j (and_parts (ltb i j) (is_acquire (event t i)) taken).0

  pub record IsHeldThere (i : ℕ) : Type 0 where
    pub k : ℕ
    pub at : slice_get (held_positions t j) k ≡ Some i
    pub lock : slice_get (held_locks_at t j) k ≡ Some (lock_at t i)
    pub has : Contains (held_locks_at t j) (lock_at t i)

  pub held_there : (i : ℕ) → is_held t i j ≡ true → IsHeldThere i
  held_there i h =
      let (k, at) = positions_below-has (λ m. is_held t m j) j i (held_before i h) h in
      let lock = lock_there k i at in
      record { k = k; at = at; lock = lock; has = (k, slice_get_within (held_locks_at t j) k (lock_at t i) lock, get_or_from_slice_get (held_locks_at t j) k (lock_at t i) (lock_at t i) lock) }

  -- ---- an acquisition
  module _ (key : ℕ) (mode : Mode) (here : event t j ≡ Some (Acquire mode key)) where
    abbrev c : ChainParts
    c = acquisition_at t j key mode

    takes-dependency : (from to : ℕ) (k : Kind) (i : ℕ) (d : IsDependency t from to k) → d.i ≡ i → d.j ≡ j →
        (held : ℕ) × GivenBy c (Dependency from to k) (Some held) × (slice_get (held_positions t j) held ≡ Some i)
    takes-dependency from to k i d di dj =
        let h = held_there i (subst (λ m. is_held t m j ≡ true) di (subst (λ m. is_held t d.i m ≡ true) dj d.is_held)) in
        let taken : event t d.j ≡ Some (Acquire mode key) = ap (event t) dj ∙ here in (
          h.k,
          (
            record {
              old = lock_at t i;
              new = record { key = key; mode = mode };
              frame = kind t j;
              is_held = h.has;
              is_new = refl;
              waits = subst (λ o. may_wait (mode_taken o) ≡ true) taken d.waits;
              from_is = d.from_is ∙ ap (λ m. key_taken (event t m)) di;
              to_is = d.to_is ∙ ap key_taken taken;
              how = d.how ∙ ap (λ m. kind_between (mode_taken (event t m)) (mode_taken (event t d.j))) di
                  ∙ ap (λ o. kind_between (mode_taken (event t i)) (mode_taken o)) taken;
            },
            h.lock,
          ),
          h.at,
        )

    dependency-taken : (from to : ℕ) (k : Kind) (held : ℕ) → GivenBy c (Dependency from to k) (Some held) →
        (i : ℕ) × (slice_get (held_positions t j) held ≡ Some i) × Gives t (Dependency from to k) j (Some i)
    dependency-taken from to k held (d, at) =
        let p = position_there held d.old at in
        let taken = new_is (record { key = key; mode = mode }) d.new (kind t j) d.frame d.is_new in (
          p.i,
          p.at,
          (
            record {
              i = p.i;
              j = j;
              is_taken = ap is_acquire here;
              is_held = p.is_held;
              waits = subst (λ o. may_wait (mode_taken o) ≡ true) (sym here) (subst (λ (l : Lock). may_wait l.mode ≡ true) (sym taken) d.waits);
              from_is = d.from_is ∙ sym (ap (λ (l : Lock). l.key) p.is);
              to_is = d.to_is ∙ sym (ap (λ (l : Lock). l.key) taken) ∙ sym (ap key_taken here);
              how =
                  d.how ∙ ap (λ (l : Lock). kind_between l.mode d.new.mode) (sym p.is)
                  ∙ ap (λ (l : Lock). kind_between (mode_taken (event t p.i)) l.mode) (sym taken)
                  ∙ ap (λ o. kind_between (mode_taken (event t p.i)) (mode_taken o)) (sym here);
            },
            refl,
            refl,
          ),
        )

    takes-mark : (a : ℕ) (mark : Mark) (m : IsMarkedTaking t a mark) → m.j ≡ j → ChainMarksNew c a mark
    takes-mark a mark m mj =
        let taken : event t m.j ≡ Some (Acquire mode key) = ap (event t) mj ∙ here in
        record {
          new = record { key = key; mode = mode };
          frame = kind t j;
          is_new = refl;
          key_is = m.key_is ∙ ap key_taken taken;
          gives = subst (λ n. IsTrue (marks_taken mode (kind t n) (flags_at t n) mark)) mj
              (subst (λ o. IsTrue (marks_taken (mode_taken o) (kind t m.j) (flags_at t m.j) mark)) taken m.gives);
        }

    mark-taken : (a : ℕ) (mark : Mark) → ChainMarksNew c a mark → Gives t (Marked a mark) j None
    mark-taken a mark m =
        let lock = new_is (record { key = key; mode = mode }) m.new (kind t j) m.frame m.is_new in
        let frame = frame_is (record { key = key; mode = mode }) m.new (kind t j) m.frame m.is_new in
        let given : IsTrue (marks_taken mode (kind t j) (flags_at t j) mark) =
        subst (λ f. IsTrue (marks_taken mode f (flags_at t j) mark)) (sym frame)
        (subst (λ (l : Lock). IsTrue (marks_taken l.mode m.frame (flags_at t j) mark)) (sym lock) m.gives) in (
          record {
            j = j;
            is_taken = ap is_acquire here;
            key_is = m.key_is ∙ sym (ap (λ (l : Lock). l.key) lock) ∙ sym (ap key_taken here);
            gives = subst (λ o. IsTrue (marks_taken (mode_taken o) (kind t j) (flags_at t j) mark)) (sym here) given;
          },
          refl,
        )

    -- an acquisition opens nothing
    no_opening : (a : ℕ) (mark : Mark) (m : IsMarkedOpening t a mark) → m.j ≡ j → ⊥
    no_opening a mark m mj = true≢false (sym m.is_opening ∙ ap is_turn_on (ap (event t) mj ∙ here))

  -- ---- an opening
  module _ (irq : Irq) (here : event t j ≡ Some (TurnOn irq)) where
    abbrev o : ChainParts
    o = opening_at t j

    opens-mark : (a : ℕ) (mark : Mark) (i : ℕ) (m : IsMarkedOpening t a mark) → m.i ≡ i → m.j ≡ j →
        (held : ℕ) × GivenBy o (Marked a mark) (Some held) × (slice_get (held_positions t j) held ≡ Some i)
    opens-mark a mark i m mi mj =
        let h = held_there i (subst (λ n. is_held t n j ≡ true) mi (subst (λ n. is_held t m.i n ≡ true) mj m.is_held)) in (
          h.k,
          (
            record {
              old = lock_at t i;
              is_opening = refl;
              is_held = h.has;
              key_is = m.key_is ∙ ap (λ n. key_taken (event t n)) mi;
              gives = subst (λ n. IsTrue (marks_opened (mode_taken (event t n)) (flags_at t (suc j)) mark)) mi
                  (subst (λ n. IsTrue (marks_opened (mode_taken (event t m.i)) (flags_at t (suc n)) mark)) mj m.gives);
            },
            h.lock,
          ),
          h.at,
        )

    mark-opened : (a : ℕ) (mark : Mark) (held : ℕ) → GivenBy o (Marked a mark) (Some held) →
        (i : ℕ) × (slice_get (held_positions t j) held ≡ Some i) × Gives t (Marked a mark) j (Some i)
    mark-opened a mark held (m, at) =
        let p = position_there held m.old at in (
          p.i,
          p.at,
          (
            record {
              i = p.i;
              j = j;
              is_opening = ap is_turn_on here;
              is_held = p.is_held;
              key_is = m.key_is ∙ sym (ap (λ (l : Lock). l.key) p.is);
              gives = subst (λ (l : Lock). IsTrue (marks_opened l.mode (flags_at t (suc j)) mark)) (sym p.is) m.gives;
            },
            refl,
            refl,
          ),
        )

    -- an opening takes nothing
    no_taking : (n : ℕ) → IsTrue (is_acquire (event t n)) → n ≡ j → ⊥
    no_taking n taken nj = true≢false (sym taken ∙ ap is_acquire (ap (event t) nj ∙ here))

  -- ---- together
  -- what the chain gives by its held lock at a place, the event gives by that lock's position
  abbrev pub ByChain : ChainParts → Type 0
  ByChain c = (x : Fact) (held : Option ℕ) → GivenBy c x held → Gives t x j (position held)

  abbrev pub ToChain : ChainParts → Type 0
  ToChain c = (x : Fact) (at : Option ℕ) → Gives t x j at → (held : Option ℕ) × GivenBy c x held × (at ≡ position held)

  by_acquisition : (key : ℕ) (mode : Mode) → event t j ≡ Some (Acquire mode key) → ByChain (acquisition_at t j key mode)
  by_acquisition key mode here (Dependency from to k) (Some held) given =
      let (i, at, gives) = dependency-taken key mode here from to k held given in
      subst (Gives t (Dependency from to k) j) (sym at) gives
  by_acquisition key mode here (Dependency from to k) None given = absurd given
  by_acquisition key mode here (Marked a mark) (Some held) given = absurd (cc given.0.is_opening)
  by_acquisition key mode here (Marked a mark) None given = mark-taken key mode here a mark given

  to_acquisition : (key : ℕ) (mode : Mode) → event t j ≡ Some (Acquire mode key) → ToChain (acquisition_at t j key mode)
  to_acquisition key mode here (Dependency from to k) (Some i) (d, di, dj) =
      let (held, given, at) = takes-dependency key mode here from to k i d di dj in (Some held, given, sym at)
  to_acquisition key mode here (Dependency from to k) None gives = absurd gives
  to_acquisition key mode here (Marked a mark) (Some i) (m, mi, mj) = absurd (no_opening key mode here a mark m mj)
  to_acquisition key mode here (Marked a mark) None (m, mj) = (None, takes-mark key mode here a mark m mj, refl)

  by_opening : (irq : Irq) → event t j ≡ Some (TurnOn irq) → ByChain (opening_at t j)
  by_opening irq here (Dependency from to k) (Some held) given = absurd (cc given.0.is_new)
  by_opening irq here (Dependency from to k) None given = absurd given
  by_opening irq here (Marked a mark) (Some held) given =
      let (i, at, gives) = mark-opened irq here a mark held given in
      subst (Gives t (Marked a mark) j) (sym at) gives
  by_opening irq here (Marked a mark) None given = absurd (cc given.is_new)

  to_opening : (irq : Irq) → event t j ≡ Some (TurnOn irq) → ToChain (opening_at t j)
  to_opening irq here (Dependency from to k) (Some i) (d, di, dj) = absurd (no_taking irq here d.j d.is_taken dj)
  to_opening irq here (Dependency from to k) None gives = absurd gives
  to_opening irq here (Marked a mark) (Some i) (m, mi, mj) =
      let (held, given, at) = opens-mark irq here a mark i m mi mj in (Some held, given, sym at)
  to_opening irq here (Marked a mark) None (m, mj) = absurd (no_taking irq here m.j m.is_taken mj)

  pub giving : (c : ChainParts) → chain t j ≡ Some c → ByChain c × ToChain c
  unfolding chain_of
  giving c is = by (event t j) refl is
    where
      by : (o : Option Event) → event t j ≡ o → option_and_then (chain_of t j) o ≡ Some c → ByChain c × ToChain c
      by None here e = absurd (cc)
      by (Some (Acquire mode key)) here e =
          let same : acquisition_at t j key mode ≡ c = cc in
          (subst ByChain same (by_acquisition key mode here), subst ToChain same (to_acquisition key mode here))
      by (Some (TurnOn irq)) here e =
          let same : opening_at t j ≡ c = cc in
          (subst ByChain same (by_opening irq here), subst ToChain same (to_opening irq here))
      by (Some (Release key)) here e = absurd (cc)
      by (Some (Enter irq)) here e = absurd (cc)
      by (Some Leave) here e = absurd (cc)
      by (Some (TurnOff irq)) here e = absurd (cc)

  -- ---- an event that makes no chain gives nothing
  taken_or_opened : (o : Option Event) → event t j ≡ o → option_and_then (chain_of t j) o ≡ None → (is_acquire o ≡ false) × (is_turn_on o ≡ false)
  unfolding chain_of
  taken_or_opened None here e = (refl, refl)
  taken_or_opened (Some (Acquire mode key)) here e = absurd (cc)
  taken_or_opened (Some (TurnOn irq)) here e = absurd (cc)
  taken_or_opened (Some (Release key)) here e = (refl, refl)
  taken_or_opened (Some (Enter irq)) here e = (refl, refl)
  taken_or_opened (Some Leave) here e = (refl, refl)
  taken_or_opened (Some (TurnOff irq)) here e = (refl, refl)

  pub nothing_given : chain t j ≡ None → (x : Fact) (at : Option ℕ) → Gives t x j at → ⊥
  nothing_given is = by
    where
      neither : (is_acquire (event t j) ≡ false) × (is_turn_on (event t j) ≡ false)
      neither = taken_or_opened (event t j) refl is

      by : (x : Fact) (at : Option ℕ) → Gives t x j at → ⊥
      by (Dependency from to k) (Some i) (d, di, dj) = true≢false (sym d.is_taken ∙ ap (λ n. is_acquire (event t n)) dj ∙ neither.0)
      by (Dependency from to k) None gives = gives
      by (Marked a mark) (Some i) (m, mi, mj) = true≢false (sym m.is_opening ∙ ap (λ n. is_turn_on (event t n)) mj ∙ neither.1)
      by (Marked a mark) None (m, mj) = true≢false (sym m.is_taken ∙ ap (λ n. is_acquire (event t n)) mj ∙ neither.0)

  -- ---- the chain itself
  -- an event that makes a chain
  pub chain_event : (c : ChainParts) → chain t j ≡ Some c → (e : Event) × (event t j ≡ Some e) × IsTrue (makes_chain e)
  unfolding chain_of
  chain_event c is = by (event t j) refl is
    where
      by : (o : Option Event) → event t j ≡ o → option_and_then (chain_of t j) o ≡ Some c → (e : Event) × (event t j ≡ Some e) × IsTrue (makes_chain e)
      by None here e = absurd (cc)
      by (Some (Acquire mode key)) here e = (Acquire mode key, here, refl)
      by (Some (TurnOn irq)) here e = (TurnOn irq, here, refl)
      by (Some (Release key)) here e = absurd (cc)
      by (Some (Enter irq)) here e = absurd (cc)
      by (Some Leave) here e = absurd (cc)
      by (Some (TurnOff irq)) here e = absurd (cc)

  -- its held locks are those held there
  pub chain_held : (c : ChainParts) → chain t j ≡ Some c → held_locks_at t j ≡ c.held_locks
  unfolding chain_of
  chain_held c is = by (event t j) refl is
    where
      by : (o : Option Event) → event t j ≡ o → option_and_then (chain_of t j) o ≡ Some c → held_locks_at t j ≡ c.held_locks
      by None here e = absurd (cc)
      by (Some (Acquire mode key)) here e = let same : acquisition_at t j key mode ≡ c = cc in ap (λ (x : ChainParts). x.held_locks) same
      by (Some (TurnOn irq)) here e = let same : opening_at t j ≡ c = cc in ap (λ (x : ChainParts). x.held_locks) same
      by (Some (Release key)) here e = absurd (cc)
      by (Some (Enter irq)) here e = absurd (cc)
      by (Some Leave) here e = absurd (cc)
      by (Some (TurnOff irq)) here e = absurd (cc)

  held_count : (c : ChainParts) → chain t j ≡ Some c → length c.held_locks ≡ length (held_positions t j)
  unfolding held_locks_at
  held_count c is = ap length (sym (chain_held c is)) ∙ length-map (held_positions t j) (lock_at t)

  held_within : (new : Option (Lock × Frame)) (c : ChainParts) (n held : ℕ) → n < slots_by new c → held_by new c n ≡ Some held → held < length c.held_locks
  held_within None c n held within is = let e : n / 2 ≡ held = cc in omega (arith, within, e)
  held_within (Some new) c n held within is = elim (cases_lt n (length c.held_locks)) [
    | inl l ↦
        let at : Some n ≡ Some held = ap (λ b. if b then Some n else None) (sym (Rattle.std.proofs.lemmas.Bool.lt-ltb n (length c.held_locks) l)) ∙ is in
        let e : n ≡ held = cc in omega (arith, l, e)
    | inr past ↦
        let at : None ≡ Some held = ap (λ b. if b then Some n else None) (sym (le-ltb n (length c.held_locks) past)) ∙ is in absurd (cc)
  ]

  pub slot_within : (c : ChainParts) → chain t j ≡ Some c → (n held : ℕ) → n < fact_slots c → slot_held c n ≡ Some held → held < length (held_positions t j)
  slot_within c is n held within at = omega (arith, held_within c.new_lock c n held within at, held_count c is)

-- an event that gives a fact is there
pub gives_within : (t : List Event) (x : Fact) (j : ℕ) (at : Option ℕ) → Gives t x j at → j < length t
gives_within t x j at gives = by x at gives
  where
    taken : (o : Option Event) → event t j ≡ o → is_acquire o ≡ true → j < length t
    taken None here e = absurd (true≢false (sym e))
    taken (Some e) here a = slice_get_within t j e here

    opened : (o : Option Event) → event t j ≡ o → is_turn_on o ≡ true → j < length t
    opened None here e = absurd (true≢false (sym e))
    opened (Some e) here a = slice_get_within t j e here

    by : (x : Fact) (at : Option ℕ) → Gives t x j at → j < length t
    by (Dependency from to k) (Some i) (d, di, dj) = taken (event t j) refl (subst (λ n. is_acquire (event t n) ≡ true) dj d.is_taken)
    by (Dependency from to k) None gives = absurd gives
    by (Marked a mark) (Some i) (m, mi, mj) = opened (event t j) refl (subst (λ n. is_turn_on (event t n) ≡ true) mj m.is_opening)
    by (Marked a mark) None (m, mj) = taken (event t j) refl (subst (λ n. is_acquire (event t n) ≡ true) mj m.is_taken)
