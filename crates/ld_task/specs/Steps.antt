-- One more event: how a task's state changes along its trace [this project's own].
use Rattle.std.specs.Prelude.{◌≡◌, ℕ, ◌+◌, List, [], ◌∷◌, ◌++◌, length, take, Option, Some, Result, Ok, Err}
use Rattle.std.specs.Option.{option_to_list}
use Rattle.ld_trace.specs.declared.event.Event.{Event}
use Rattle.ld_task.specs.declared.fault.StepFault.{StepFault}
use Rattle.ld_task.specs.WellFormed.{fault, IsWellFormed, IsFirstFault}
use Rattle.ld_task.specs.Chains.{ChainParts}
use Rattle.ld_task.specs.TraceChains.{chain, chains}
use Rattle.ld_task.specs.EndState.{EndState, end_state}

-- The event e after the well-formed trace h: either the longer trace is well formed, this is its end state, and the
-- result is the chain of its last position; or e isn't allowed there, with this fault.
abbrev pub StepsTo : List Event → Event → EndState → Result (Option ChainParts) StepFault → Type 0
StepsTo h e new (Ok answer) =
    let t = h ++ e ∷ [] in IsWellFormed t × (new ≡ end_state t) × (answer ≡ chain t (length h))
StepsTo h e new (Err refused) = fault (h ++ e ∷ []) (length h) ≡ Some refused

-- the first n events of t are well formed, and this is the state after them
pub record IsStateAfter (t : List Event) (n : ℕ) (state : EndState) : Type 0 where
  pub well_formed : IsWellFormed (take n t)
  pub is_end : state ≡ end_state (take n t)

-- The event at n, after the first n events of t: either this is the state after it, and the result is the one chain
-- that the chains so far gain; or the event at n is the first of t that isn't allowed, with this fault.
abbrev pub GoesOn : List Event → ℕ → EndState → Result (Option ChainParts) StepFault → Type 0
GoesOn t n new (Ok answer) =
    IsStateAfter t (n + 1) new
    × (chains (take (n + 1) t) ≡ chains (take n t) ++ option_to_list answer)
GoesOn t n new (Err refused) = IsFirstFault t (record { fault = refused; place = n })
