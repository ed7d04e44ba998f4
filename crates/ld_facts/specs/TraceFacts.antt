-- The facts of many traces together: the union of each one's [this project's own].
use Rattle.std.specs.Prelude.{◌≡◌, ℕ, List, Any, All, Some, take, slice_get}
use Rattle.ld_trace.specs.declared.event.Event.{Event}
use Rattle.ld_task.specs.declared.fault.StepAt.{StepAt}
use Rattle.ld_task.specs.WellFormed.{IsWellFormed, IsFirstFault}
use Rattle.ld_facts.specs.Facts.{TraceHas}
use Rattle.ld_facts.specs.declared.fact.Fact.{Fact}

-- some trace of the list has the fact
abbrev pub TracesHave : List (List Event) → Fact → Type 0
TracesHave traces x = Any (λ t. TraceHas t x) traces

-- the trace at this place is the first of the list that isn't well formed, and this is its first fault
pub record IsFirstRefused (traces : List (List Event)) (trace : ℕ) (found : StepAt) : Type 0 where
  pub refused : List Event
  pub at : slice_get traces trace ≡ Some refused
  pub fault : IsFirstFault refused found
  pub before : All IsWellFormed (take trace traces)
