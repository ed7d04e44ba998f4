-- The dependencies and the marks of a trace are those of its chains.
use Rattle.ld_task.proofs.Names.{◌∙◌, ◌≡◌, ◌⊎◌, Acquire, Any, ChainHasDependency, ChainHasMark, ChainMarksHeld, ChainMarksNew, ChainParts, Contains, DependenciesAreTheChains, Enter, Event, Frame, Irq, IsDependency, IsMarked, IsMarkedOpening, IsMarkedTaking, IsTrue, Leave, List, Lock, MarksAreTheChains, Mode, None, Option, Release, Some, TurnOff, TurnOn, ap, event, flags_at, inl, inr, is_acquire, is_turn_on, key_taken, lock_at, marks_opened, marks_taken, mode_taken, refl, same_Some, subst, suc, sym, true, true≢false, ℕ}
use Rattle.ld_task.specs.declared.kind.Kind.{Kind}
use Rattle.ld_task.specs.declared.mark.Mark.{Mark}
use Rattle.ld_task.specs.Frames.{kind}
use Rattle.ld_task.specs.Held.{is_held}
use Rattle.ld_trace.specs.Modes.{may_wait}
use Rattle.ld_task.specs.Kinds.{kind_between}
use Rattle.ld_task.specs.TraceChains.{held_locks_at, chains}
use Rattle.ld_task.proofs.TraceLemmas.{is_kept-true, is_held-parts}
use Rattle.ld_task.proofs.Mapped.{Comes, Contains-mapped, mapped-comes}
use Rattle.ld_task.proofs.ChainLists.{Any-chains, chains-Any, acquisition_at, opening_at, IsAcquisition, IsOpening, chain-acquire, chain-turn_on, chain-cases}

-- the new lock of an acquisition's chain
new_is : (a b : Lock) (f g : Frame) → (let x : Lock × Frame = (a, f) in let y : Lock × Frame = (b, g) in Some x ≡ Some y) → a ≡ b
new_is a b f g e = ap (λ (p : Lock × Frame). p.0) (same_Some (a, f) (b, g) e)

frame_is : (a b : Lock) (f g : Frame) → (let x : Lock × Frame = (a, f) in let y : Lock × Frame = (b, g) in Some x ≡ Some y) → f ≡ g
frame_is a b f g e = ap (λ (p : Lock × Frame). p.1) (same_Some (a, f) (b, g) e)

module _ (t : List Event) where
  -- what is held at a position is among its held locks
  is_held-among : (i j : ℕ) → is_held t i j ≡ true → Contains (held_locks_at t j) (lock_at t i)
  unfolding held_locks_at
  is_held-among i j h =
      Contains-mapped (lock_at t) (λ k. is_held t k j) j (lock_at t i)
      (record { at = i; below = (is_kept-true t i j (is_held-parts t i j h).0).before; passes = h; gives = refl })

  pub among-is_held : (j : ℕ) (lock : Lock) → Contains (held_locks_at t j) lock → Comes (lock_at t) (λ k. is_held t k j) j lock
  unfolding held_locks_at
  among-is_held j lock m = mapped-comes (lock_at t) (λ k. is_held t k j) j lock m

  -- an acquisition at a position
  record Takes (j : ℕ) : Type 0 where
    key : ℕ
    mode : Mode
    is_event : event t j ≡ Some (Acquire mode key)

  takes : (j : ℕ) (o : Option Event) → event t j ≡ o → is_acquire o ≡ true → Takes j
  takes j (Some (Acquire mode key)) e a = record { key = key; mode = mode; is_event = e }
  takes j None e a = absurd (true≢false (sym a))
  takes j (Some (Release key)) e a = absurd (true≢false (sym a))
  takes j (Some (Enter irq)) e a = absurd (true≢false (sym a))
  takes j (Some Leave) e a = absurd (true≢false (sym a))
  takes j (Some (TurnOn irq)) e a = absurd (true≢false (sym a))
  takes j (Some (TurnOff irq)) e a = absurd (true≢false (sym a))

  opens : (j : ℕ) (o : Option Event) → event t j ≡ o → is_turn_on o ≡ true → (irq : Irq) × (event t j ≡ Some (TurnOn irq))
  opens j (Some (TurnOn irq)) e a = (irq, e)
  opens j None e a = absurd (true≢false (sym a))
  opens j (Some (Acquire mode key)) e a = absurd (true≢false (sym a))
  opens j (Some (Release key)) e a = absurd (true≢false (sym a))
  opens j (Some (Enter irq)) e a = absurd (true≢false (sym a))
  opens j (Some Leave) e a = absurd (true≢false (sym a))
  opens j (Some (TurnOff irq)) e a = absurd (true≢false (sym a))

  module _ (from to : ℕ) (k : Kind) where
    dependency-told : IsDependency t from to k → Any (λ c. ChainHasDependency c from to k) (chains t)
    dependency-told d =
        let a = takes d.j (event t d.j) refl d.is_taken in
        Any-chains t (λ c. ChainHasDependency c from to k) d.j (acquisition_at t d.j a.key a.mode) (chain-acquire t d.j a.key a.mode a.is_event) (record {
          old = lock_at t d.i;
          new = record { key = a.key; mode = a.mode };
          frame = kind t d.j;
          is_held = is_held-among d.i d.j d.is_held;
          is_new = refl;
          waits = subst (λ o. may_wait (mode_taken o) ≡ true) a.is_event d.waits;
          from_is = d.from_is;
          to_is = d.to_is ∙ ap key_taken a.is_event;
          how = d.how ∙ ap (λ o. kind_between (mode_taken (event t d.i)) (mode_taken o)) a.is_event;
        })

    told-acquisition : (j : ℕ) (c : ChainParts) → IsAcquisition t j c → ChainHasDependency c from to k → IsDependency t from to k
    told-acquisition j c a d' =
        let d = subst (λ x. ChainHasDependency x from to k) (sym a.parts) d' in
        let r = among-is_held j d.old d.is_held in
        let taken = new_is (record { key = a.key; mode = a.mode }) d.new (kind t j) d.frame d.is_new in
        record {
          i = r.at;
          j = j;
          is_taken = ap is_acquire a.is_event;
          is_held = r.passes;
          waits = subst (λ o. may_wait (mode_taken o) ≡ true) (sym a.is_event) (subst (λ (l : Lock). may_wait l.mode ≡ true) (sym taken) d.waits);
          from_is = d.from_is ∙ sym (ap (λ (l : Lock). l.key) r.gives);
          to_is = d.to_is ∙ sym (ap (λ (l : Lock). l.key) taken) ∙ sym (ap key_taken a.is_event);
          how =
              d.how ∙ ap (λ (l : Lock). kind_between l.mode d.new.mode) (sym r.gives)
              ∙ ap (λ (l : Lock). kind_between (mode_taken (event t r.at)) l.mode) (sym taken)
              ∙ ap (λ o. kind_between (mode_taken (event t r.at)) (mode_taken o)) (sym a.is_event);
        }

    told-opening : (j : ℕ) (c : ChainParts) → IsOpening t j c → ChainHasDependency c from to k → IsDependency t from to k
    told-opening j c o d' = absurd (
        let d = subst (λ x. ChainHasDependency x from to k) (sym o.parts) d' in
        cc d.is_new)

    told-dependency : Any (λ c. ChainHasDependency c from to k) (chains t) → IsDependency t from to k
    told-dependency a =
        let x = chains-Any t (λ c. ChainHasDependency c from to k) a in
        elim (chain-cases t x.1.at x.0 x.1.is_chain) [
          | inl y ↦ told-acquisition x.1.at x.0 y x.2
          | inr y ↦ told-opening x.1.at x.0 y x.2
        ]

pub dependencies_are_the_chains : DependenciesAreTheChains
dependencies_are_the_chains t from to k = (dependency-told t from to k, told-dependency t from to k)

module _ (t : List Event) (key : ℕ) (mark : Mark) where
  taking-told : IsMarkedTaking t key mark → Any (λ c. ChainHasMark c key mark) (chains t)
  taking-told m =
      let a = takes t m.j (event t m.j) refl m.is_taken in
      Any-chains t (λ c. ChainHasMark c key mark) m.j (acquisition_at t m.j a.key a.mode) (chain-acquire t m.j a.key a.mode a.is_event) (inl (record {
        new = record { key = a.key; mode = a.mode };
        frame = kind t m.j;
        is_new = refl;
        key_is = m.key_is ∙ ap key_taken a.is_event;
        gives = subst (λ o. IsTrue (marks_taken (mode_taken o) (kind t m.j) (flags_at t m.j) mark)) a.is_event m.gives;
      }))

  opening-told : IsMarkedOpening t key mark → Any (λ c. ChainHasMark c key mark) (chains t)
  opening-told m =
      let o = opens t m.j (event t m.j) refl m.is_opening in
      Any-chains t (λ c. ChainHasMark c key mark) m.j (opening_at t m.j) (chain-turn_on t m.j o.0 o.1) (inr (record {
        old = lock_at t m.i;
        is_opening = refl;
        is_held = is_held-among t m.i m.j m.is_held;
        key_is = m.key_is;
        gives = m.gives;
      }))

  taking-back : (j : ℕ) (c : ChainParts) → IsAcquisition t j c → ChainMarksNew c key mark → IsMarked t key mark
  taking-back j c a m' =
      let m = subst (λ x. ChainMarksNew x key mark) (sym a.parts) m' in
      let lock = new_is (record { key = a.key; mode = a.mode }) m.new (kind t j) m.frame m.is_new in
      let frame = frame_is (record { key = a.key; mode = a.mode }) m.new (kind t j) m.frame m.is_new in
      let flags = flags_at t j in
      let here : IsTrue (marks_taken a.mode (kind t j) flags mark) = subst (λ f. IsTrue (marks_taken a.mode f flags mark)) (sym frame) (subst (λ (l : Lock). IsTrue (marks_taken l.mode m.frame flags mark)) (sym lock) m.gives) in
      inl (record {
        j = j;
        is_taken = ap is_acquire a.is_event;
        key_is = m.key_is ∙ sym (ap (λ (l : Lock). l.key) lock) ∙ sym (ap key_taken a.is_event);
        gives = subst (λ o. IsTrue (marks_taken (mode_taken o) (kind t j) flags mark)) (sym a.is_event) here;
      })

  opening-back : (j : ℕ) (c : ChainParts) → IsOpening t j c → ChainMarksHeld c key mark → IsMarked t key mark
  opening-back j c o m' =
      let m = subst (λ x. ChainMarksHeld x key mark) (sym o.parts) m' in
      let r = among-is_held t j m.old m.is_held in
      let flags = flags_at t (suc j) in
      inr (record {
        i = r.at;
        j = j;
        is_opening = ap is_turn_on o.is_event;
        is_held = r.passes;
        key_is = m.key_is ∙ sym (ap (λ (l : Lock). l.key) r.gives);
        gives = subst (λ (l : Lock). IsTrue (marks_opened l.mode flags mark)) (sym r.gives) m.gives;
      })

  -- an opening has no new lock, and an acquisition has one
  not-new : (j : ℕ) (c : ChainParts) → IsOpening t j c → ChainMarksNew c key mark → IsMarked t key mark
  not-new j c o m' = let m = subst (λ x. ChainMarksNew x key mark) (sym o.parts) m' in absurd (cc m.is_new)

  not-opening : (j : ℕ) (c : ChainParts) → IsAcquisition t j c → ChainMarksHeld c key mark → IsMarked t key mark
  not-opening j c a m' = let m = subst (λ x. ChainMarksHeld x key mark) (sym a.parts) m' in absurd (cc m.is_opening)

  told-back : (j : ℕ) (c : ChainParts) → IsAcquisition t j c ⊎ IsOpening t j c → ChainHasMark c key mark → IsMarked t key mark
  told-back j c (inl a) (inl m) = taking-back j c a m
  told-back j c (inr o) (inr m) = opening-back j c o m
  told-back j c (inr o) (inl m) = not-new j c o m
  told-back j c (inl a) (inr m) = not-opening j c a m

  mark-told : IsMarked t key mark → Any (λ c. ChainHasMark c key mark) (chains t)
  mark-told (inl m) = taking-told m
  mark-told (inr m) = opening-told m

  told-mark : Any (λ c. ChainHasMark c key mark) (chains t) → IsMarked t key mark
  told-mark a =
      let x = chains-Any t (λ c. ChainHasMark c key mark) a in
      told-back x.1.at x.0 (chain-cases t x.1.at x.0 x.1.is_chain) x.2

pub marks_are_the_chains : MarksAreTheChains
marks_are_the_chains t key mark = (mark-told t key mark, told-mark t key mark)
