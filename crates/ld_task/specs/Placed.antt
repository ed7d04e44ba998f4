-- The state of a task together with the positions of its locks [this project's own].
use Rattle.std.specs.Prelude.{◌≡◌, ℕ, ◌+◌, List, Option, Result, Ok, Err}
use Rattle.ld_trace.specs.declared.event.Event.{Event}
use Rattle.ld_task.specs.Chains.{ChainParts}
use Rattle.ld_task.specs.EndState.{EndState}
use Rattle.ld_task.specs.Held.{is_kept, is_held}
use Rattle.ld_task.specs.Positions.{positions_below}
use Rattle.ld_task.specs.Steps.{IsStateAfter}
use Rattle.ld_task.specs.TraceChains.{chain}
use Rattle.ld_task.specs.WellFormed.{IsFirstFault}
use Rattle.ld_task.specs.declared.fault.StepFault.{StepFault}

-- a state, and for each lock that is kept the position at which it was taken, oldest first
pub record PlacedParts : Type 0 where
  pub state : EndState
  pub places : List ℕ

-- the positions of the acquisitions that are kept at n, and of those that are held there, oldest first
abbrev pub kept_positions : List Event → ℕ → List ℕ
kept_positions t n = positions_below n (λ i. is_kept t i n)

abbrev pub held_positions : List Event → ℕ → List ℕ
held_positions t n = positions_below n (λ i. is_held t i n)

-- the first n events of t are well formed, and this is the state after them, with the positions of its locks
pub record IsPlacedAfter (t : List Event) (n : ℕ) (placed : PlacedParts) : Type 0 where
  pub state : IsStateAfter t n placed.state
  pub places : placed.places ≡ kept_positions t n

-- The event at n, after the first n events of t: either this is the state after it, and the result is the chain at n;
-- or the event at n is the first of t that isn't allowed, with this fault.
abbrev pub GoesOnPlaced : List Event → ℕ → PlacedParts → Result (Option ChainParts) StepFault → Type 0
GoesOnPlaced t n new (Ok answer) = IsPlacedAfter t (n + 1) new × (answer ≡ chain t n)
GoesOnPlaced t n new (Err refused) = IsFirstFault t (record { fault = refused; place = n })
