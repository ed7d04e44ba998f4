-- Steps that are known, and walking along them [this project's own].
use Rattle.std.specs.Prelude.{◌≡◌, ℕ, ◌+◌, ◌*◌, ◌<◌, ◌≤◌, length, List, All, Option, Some, IfSome, slice_get}
use Rattle.ld_trace.specs.declared.event.Event.{Event}
use Rattle.ld_trace.specs.declared.event.Event.TheVariants.{Acquire, Release, Enter, Leave, TurnOn, TurnOff}
use Rattle.ld_trace.specs.declared.event.Irq.{Irq}
use Rattle.ld_trace.specs.declared.event.Irq.TheVariants.{Hard, Soft}
use Rattle.ld_task.specs.EndState.{EndState}
use Rattle.ld_task.specs.Locks.{mode_number}
use Rattle.ld_task.specs.Steps.{IsStateAfter}
use Rattle.ld_run.specs.declared.known_steps.KnownStep.{KnownStep}
use Rattle.ld_run.specs.declared.known_steps.KnownSteps.{KnownSteps}
use Rattle.ld_run.specs.declared.known_steps.Reached.{Reached}
use Rattle.ld_run.specs.declared.known_steps.TheConstants.{NO_STATE}
use Rattle.ld_run.specs.declared.known_steps.Walk.{Walk}
use Rattle.ld_run.specs.Inside.Walks.{GoesAlong, IsStep, Store}

-- each state of the interrupts has a number
abbrev pub irq_number : Irq → ℕ
irq_number Hard = 0
irq_number Soft = 1

-- each event has a code of its own
abbrev pub event_code : Event → ℕ
event_code (Acquire mode key) = key * 8 + mode_number mode
event_code (Release key) = key * 8 + 6
event_code (Enter irq) = 7 + irq_number irq * 8
event_code Leave = 23
event_code (TurnOn irq) = 31 + irq_number irq * 8
event_code (TurnOff irq) = 47 + irq_number irq * 8

-- the step is one between states that have its numbers, by an event of its code
pub record IsKnown (store : Store) (states : List EndState) (step : KnownStep) : Type 0 where
  pub event : Event
  pub from : EndState
  pub to : EndState
  pub code_is : step.code ≡ event_code event
  pub from_is : slice_get states step.from ≡ Some from
  pub to_is : slice_get states step.to ≡ Some to
  pub is_step : IsStep store from event to

-- there are fewer states than numbers, and each step from a state that there can be is known
pub record AreKnown (store : Store) (known : KnownSteps) : Type 0 where
  pub few : length known.states.items ≤ NO_STATE
  pub steps : All (λ (step : KnownStep). step.from < NO_STATE → IsKnown store known.states.items step) known.steps.items

-- from the state of the one number the event leads to that of the other
abbrev pub IsFound : KnownSteps → ℕ → Event → ℕ → Type 0
IsFound known from event to =
    (store : Store) (state : EndState) → AreKnown store known → slice_get known.states.items from ≡ Some state
    → (next : EndState) × (slice_get known.states.items to ≡ Some next) × IsStep store state event next

-- from the one place of a trace, in the state of that number, known steps lead to the other
abbrev pub Reaches : KnownSteps → List Event → Reached → Reached → Type 0
Reaches known t from to =
    (store : Store) (state : EndState) → AreKnown store known → slice_get known.states.items from.state ≡ Some state
    → IsStateAfter t from.place state
    → (next : EndState) × (slice_get known.states.items to.state ≡ Some next)
    × GoesAlong store t (record { place = from.place; state = state; number = from.number })
    (record { place = to.place; state = next; number = to.number })

-- the same of a walk whose state may have a number
abbrev pub Follows : KnownSteps → List Event → Option ℕ → Walk → Option ℕ → Walk → Type 0
Follows known t here from there to =
    (store : Store) → AreKnown store known → IfSome here (λ n. slice_get known.states.items n ≡ Some from.state)
    → IsStateAfter t from.place from.state
    → IfSome there (λ n. slice_get known.states.items n ≡ Some to.state) × GoesAlong store t from to

-- a step between the states of these numbers leaves all steps known
abbrev pub Keeps : KnownSteps → ℕ → Event → ℕ → KnownSteps → Type 0
Keeps known from event to after =
    (store : Store) (old new : EndState)
    → slice_get known.states.items from ≡ Some old → slice_get known.states.items to ≡ Some new → IsStep store old event new
    → AreKnown store known → AreKnown store after

-- a step from a state that may have a number leaves all steps known
abbrev pub Learns : KnownSteps → Option ℕ → Event → EndState → KnownSteps → Type 0
Learns known here event to after =
    (store : Store) (from : EndState)
    → IfSome here (λ n. slice_get known.states.items n ≡ Some from) → IsStep store from event to
    → AreKnown store known → AreKnown store after
