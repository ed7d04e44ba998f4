-- Steps that are known: that each event has a code of its own, and what leaves them known.
use Rattle.ld_run.proofs.Names.{[], ◌++◌, ◌<◌, ◌∙◌, ◌∷◌, ◌≡◌, ◌≤◌, All, AreKnown, EndState, Event, HasThere, Holds, IsKnown, IsStep, List, Some, Store, ap, arith, event_code, length, refl, slice_get, slice_index_or, subst, suc, sym, zero, ℕ}
use Rattle.std.specs.Prelude.{◌/◌, ◌%◌}
use Rattle.std.proofs.Math.ListN.{set}
use Rattle.std.proofs.lemmas.List.Elements.{All-set}
use Rattle.std.proofs.lemmas.Nat.{div-mul-add, mod-mul-add}
use Rattle.ld_trace.specs.declared.event.Event.TheVariants.{Acquire, Release, Enter, Leave, TurnOn, TurnOff}
use Rattle.ld_trace.specs.declared.event.Irq.TheVariants.{Hard, Soft}
use Rattle.ld_trace.specs.declared.event.Mode.{Mode}
use Rattle.ld_trace.specs.declared.event.Mode.TheVariants.{Write, Read, RecRead, TryWrite, TryRead, TryRecRead}
use Rattle.ld_task.specs.Laws.Locks.{mode_number-below}
use Rattle.ld_task.specs.Locks.{mode_number}
use Rattle.ld_run.specs.declared.known_steps.KnownStep.{KnownStep}
use Rattle.ld_run.specs.declared.known_steps.KnownSteps.{KnownSteps}
use Rattle.ld_run.specs.declared.known_steps.TheConstants.{NO_STATE}
use Rattle.ld_run.proofs.Walking.{IsStep-later}

-- ---- the event of a code
other_event : ℕ → Event
other_event zero = Enter Hard
other_event (suc zero) = Enter Soft
other_event (suc (suc zero)) = Leave
other_event (suc (suc (suc zero))) = TurnOn Hard
other_event (suc (suc (suc (suc zero)))) = TurnOn Soft
other_event (suc (suc (suc (suc (suc zero))))) = TurnOff Hard
other_event (suc (suc (suc (suc (suc (suc n)))))) = TurnOff Soft

event_from : (kind key : ℕ) → Event
event_from zero key = Acquire Write key
event_from (suc zero) key = Acquire Read key
event_from (suc (suc zero)) key = Acquire RecRead key
event_from (suc (suc (suc zero))) key = Acquire TryWrite key
event_from (suc (suc (suc (suc zero)))) key = Acquire TryRead key
event_from (suc (suc (suc (suc (suc zero))))) key = Acquire TryRecRead key
event_from (suc (suc (suc (suc (suc (suc zero)))))) key = Release key
event_from (suc (suc (suc (suc (suc (suc (suc n))))))) key = other_event key

event_of : ℕ → Event
event_of code = event_from (code % 8) (code / 8)

taken : (mode : Mode) (key : ℕ) → event_from (mode_number mode) key ≡ Acquire mode key
unfolding event_from
taken Write key = refl
taken Read key = refl
taken RecRead key = refl
taken TryWrite key = refl
taken TryRead key = refl
taken TryRecRead key = refl

event_of-code : (event : Event) → event_of (event_code event) ≡ event
unfolding event_of event_from other_event
event_of-code (Acquire mode key) =
    (λ i. event_from (mod-mul-add key 8 (mode_number mode) (mode_number-below mode) i) (div-mul-add key 8 (mode_number mode) (mode_number-below mode) i))
    ∙ taken mode key
event_of-code (Release key) = λ i. event_from (mod-mul-add key 8 6 (omega arith) i) (div-mul-add key 8 6 (omega arith) i)
event_of-code (Enter Hard) = refl
event_of-code (Enter Soft) = refl
event_of-code Leave = refl
event_of-code (TurnOn Hard) = refl
event_of-code (TurnOn Soft) = refl
event_of-code (TurnOff Hard) = refl
event_of-code (TurnOff Soft) = refl

-- events of one code are the same
pub same_event : (a b : Event) → event_code a ≡ event_code b → a ≡ b
same_event a b is = sym (event_of-code a) ∙ ap event_of is ∙ event_of-code b

-- ---- what leaves steps known
some_same : {A : Type 0} {x y : A} → Some x ≡ Some y → x ≡ y
some_same e = cc

pub slice_get-left : {A : Type 0} (xs ys : List A) (k : ℕ) (x : A) → slice_get xs k ≡ Some x → slice_get (xs ++ ys) k ≡ Some x
slice_get-left [] ys k x is = cc
slice_get-left (y ∷ xs) ys zero x is = is
slice_get-left (y ∷ xs) ys (suc k) x is = slice_get-left xs ys k x is

module _ (store : Store) (states : List EndState) (step : KnownStep) (is : IsKnown store states step) where
  known-later : (new : Store) → Holds (HasThere new) (HasThere store) → IsKnown new states step
  known-later new up = record {
    event = is.event;
    from = is.from;
    to = is.to;
    code_is = is.code_is;
    from_is = is.from_is;
    to_is = is.to_is;
    is_step = IsStep-later store new is.from is.event is.to up is.is_step;
  }

  known-more : (more : List EndState) → IsKnown store (states ++ more) step
  known-more more = record {
    event = is.event;
    from = is.from;
    to = is.to;
    code_is = is.code_is;
    from_is = slice_get-left states more step.from is.from is.from_is;
    to_is = slice_get-left states more step.to is.to is.to_is;
    is_step = is.is_step;
  }

  -- by its code and the state before it, it is the step of an event
  pub known-found : (event : Event) (from : EndState) → step.code ≡ event_code event → slice_get states step.from ≡ Some from → (next : EndState) × (slice_get states step.to ≡ Some next) × IsStep store from event next
  known-found event from code at =
      let same = some_same (sym is.from_is ∙ at) in
      let event_is = same_event is.event event (sym is.code_is ∙ code) in
      (is.to, is.to_is, subst (λ e. IsStep store from e is.to) event_is (subst (λ s. IsStep store s is.event is.to) same is.is_step))

-- more was put or seen
pub AreKnown-later : (old new : Store) (known : KnownSteps) → Holds (HasThere new) (HasThere old) → AreKnown old known → AreKnown new known
AreKnown-later old new known up are = record {
  few = are.few;
  steps = λ k d l from. known-later old known.states.items (slice_index_or known.steps.items k d) (are.steps k d l from) new up;
}

-- there are more states
pub AreKnown-more : (store : Store) (old new : KnownSteps) (more : List EndState) → new.states.items ≡ old.states.items ++ more → new.steps ≡ old.steps → length new.states.items ≤ NO_STATE → AreKnown store old → AreKnown store new
AreKnown-more store old new more states steps few are = record {
  few = few;
  steps = subst (λ (all : List KnownStep). All (λ (step : KnownStep). step.from < NO_STATE → IsKnown store new.states.items step) all) (sym (ap (λ v. v.items) steps))
      (λ k d l from. subst (λ all. IsKnown store all (slice_index_or old.steps.items k d)) (sym states)
      (known-more store old.states.items (slice_index_or old.steps.items k d) (are.steps k d l from) more));
}

-- one step is another one
pub AreKnown-set : (store : Store) (old new : KnownSteps) (slot : ℕ) (step : KnownStep) → new.states ≡ old.states → new.steps.items ≡ set old.steps.items slot step → IsKnown store old.states.items step → AreKnown store old → AreKnown store new
AreKnown-set store old new slot step states steps is are = record {
  few = subst (λ all. length all.items ≤ NO_STATE) (sym states) are.few;
  steps = subst (λ all. All (λ (one : KnownStep). one.from < NO_STATE → IsKnown store all.items one) new.steps.items) (sym states)
      (subst (All (λ (one : KnownStep). one.from < NO_STATE → IsKnown store old.states.items one)) (sym steps)
      (All-set (λ (one : KnownStep). one.from < NO_STATE → IsKnown store old.states.items one) old.steps.items slot step (λ below. is) are.steps));
}

-- nothing is another
pub AreKnown-same : (store : Store) (old new : KnownSteps) → new.states ≡ old.states → new.steps ≡ old.steps → AreKnown store old → AreKnown store new
AreKnown-same store old new states steps are = record {
  few = subst (λ all. length all.items ≤ NO_STATE) (sym states) are.few;
  steps = subst (λ all. All (λ (one : KnownStep). one.from < NO_STATE → IsKnown store all.items one) new.steps.items) (sym states)
      (subst (λ all. All (λ (one : KnownStep). one.from < NO_STATE → IsKnown store old.states.items one) all.items) (sym steps) are.steps);
}
