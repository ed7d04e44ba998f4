-- The keys of the chains are keys of the trace, and what turning on a state does to the flags.
use Rattle.ld_task.proofs.Names.{◌<◌, ◌∙◌, ◌≡◌, ◌≢◌, ◌⊎◌, Acquire, All, ChainKeysAreTheTraces, ChainKeysBelow, ChainParts, Contains-get_or, Enter, Event, Hard, Irq, Leave, List, Lock, None, Option, Release, Soft, Some, TurnOff, TurnOn, TurningOnTurnsOn, ap, changes_flag, event, false, get_or_from_slice_get, inl, inr, is_acquire, is_enter, is_leave, is_turn_on, key_at, refl, same_irq, slice_get_within, slice_index_or, subst, sym, true, true≢false, ℕ}
use Rattle.ld_trace.specs.Events.{KeyIsBelow, KeysBelow}
use Rattle.ld_task.specs.TraceChains.{held_locks_at}
use Rattle.ld_task.proofs.NextPosition.{depth-quiet}
use Rattle.ld_task.proofs.Frames.{flag-changed, flag-quiet}
use Rattle.ld_task.proofs.TraceLemmas.{is_kept-true, is_held-parts}
use Rattle.ld_task.proofs.FactLaws.{among-is_held}
use Rattle.ld_task.proofs.ChainLists.{chains-All, IsAcquisition, IsOpening, chain-cases}

module _ (t : List Event) (n : ℕ) (keys : KeysBelow n t) where
  -- the key that an acquisition takes is one of the trace's
  event_below : (j : ℕ) (e : Event) → event t j ≡ Some e → KeyIsBelow n e
  event_below j e h = subst (KeyIsBelow n) (get_or_from_slice_get t j e e h) (keys j e (slice_get_within t j e h))

  key_below : (j : ℕ) (o : Option Event) → event t j ≡ o → is_acquire o ≡ true → key_at t j < n
  key_below j (Some (Acquire mode key)) e a = rw e (event_below j (Acquire mode key) e)
  key_below j None e a = absurd (true≢false (sym a))
  key_below j (Some (Release key)) e a = absurd (true≢false (sym a))
  key_below j (Some (Enter irq)) e a = absurd (true≢false (sym a))
  key_below j (Some Leave) e a = absurd (true≢false (sym a))
  key_below j (Some (TurnOn irq)) e a = absurd (true≢false (sym a))
  key_below j (Some (TurnOff irq)) e a = absurd (true≢false (sym a))

  held_below : (j : ℕ) → All (λ (lock : Lock). lock.key < n) (held_locks_at t j)
  held_below j k d l =
      let lock = slice_index_or (held_locks_at t j) k d in
      let r = among-is_held t j lock (Contains-get_or (held_locks_at t j) k d l) in
      let taken = (is_kept-true t r.at j (is_held-parts t r.at j r.passes).0).taken in
      subst (λ (x : Lock). x.key < n) r.gives (key_below r.at (event t r.at) refl taken)

  chain_below : (j : ℕ) (c : ChainParts) → IsAcquisition t j c ⊎ IsOpening t j c → ChainKeysBelow n c
  chain_below j c (inl a) = subst (ChainKeysBelow n) a.parts (record { held_below = held_below j; new_below = event_below j (Acquire a.mode a.key) a.is_event })
  chain_below j c (inr o) = subst (ChainKeysBelow n) o.parts (record { held_below = held_below j; new_below = tt })

pub chain_keys_are_the_traces : ChainKeysAreTheTraces
chain_keys_are_the_traces t n keys = chains-All t (ChainKeysBelow n) (λ j c e. chain_below t n keys j c (chain-cases t j c e))

same_irq-itself : (irq : Irq) → same_irq irq irq ≡ true
same_irq-itself Hard = refl
same_irq-itself Soft = refl

same_irq-other : (irq o : Irq) → o ≢ irq → same_irq irq o ≡ false
same_irq-other Hard Hard ne = absurd (ne refl)
same_irq-other Soft Soft ne = absurd (ne refl)
same_irq-other Hard Soft ne = refl
same_irq-other Soft Hard ne = refl

pub turning_on_turns_on : TurningOnTurnsOn
turning_on_turns_on t irq j e =
    let d = depth-quiet t j (ap is_enter e) (ap is_leave e) in
    record {
      on = flag-changed t j d (ap is_enter e) irq (ap (changes_flag irq) e ∙ same_irq-itself irq) ∙ ap is_turn_on e;
      other = λ o ne. flag-quiet t j d (ap is_enter e) o (ap (changes_flag o) e ∙ same_irq-other irq o ne);
    }
