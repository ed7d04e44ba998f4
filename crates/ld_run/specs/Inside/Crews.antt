-- What the workers of a run return together [this project's own].
use Rattle.std.specs.Prelude.{ℕ, List, Option, Some, None, Any, Contains, if◌then◌else◌, nat_lt}
use Rattle.ld_task.specs.declared.fault.StepAt.{StepAt}
use Rattle.ld_board.specs.Seats.{view}
use Rattle.ld_run.specs.declared.worker.Worked.{Worked}

-- the worker claimed the number
abbrev pub HasDrawn : Worked → ℕ → Type 0
HasDrawn w i = Contains (view w.seat).claimed i

-- one of them did
abbrev pub SomeHasDrawn : List Worked → ℕ → Type 0
SomeHasDrawn ws i = Any (λ w. HasDrawn w i) ws

-- the earlier of two refused traces
abbrev pub earlier_refused : Option (ℕ × StepAt) → Option (ℕ × StepAt) → Option (ℕ × StepAt)
earlier_refused (Some a) (Some b) = Some (if nat_lt b.0 a.0 then b else a)
earlier_refused (Some a) None = Some a
earlier_refused None b = b
