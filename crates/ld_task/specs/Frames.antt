-- Depths and frames of a trace [this project's own].
use Rattle.std.specs.Prelude.{ℕ, ◌+◌, Bool, true, ◌&&◌, nat_le, List, Option, Some, None, ◌-◌, false, nat_eq}
use Rattle.ld_task.specs.Events.{event, is_enter, is_leave}
use Rattle.ld_task.specs.Positions.{count_below, last_below, all_between}
use Rattle.ld_task.specs.declared.frame.Frame.{Frame}
use Rattle.ld_task.specs.declared.frame.Frame.TheVariants.{Task, Softirq, Hardirq}
use Rattle.ld_trace.specs.declared.event.Event.{Event}
use Rattle.ld_trace.specs.declared.event.Event.TheVariants.{Enter}
use Rattle.ld_trace.specs.declared.event.Irq.TheVariants.{Hard, Soft}

-- the entries before a position less the leaves before it. The subtraction stops at 0, so if a list leaves the task
-- frame, the depths after that leave mean nothing; no fault or chain before it depends on them
unfoldable pub depth : List Event → ℕ → ℕ
depth t j = count_below j (λ k. is_enter (event t k)) - count_below j (λ k. is_leave (event t k))

-- positions i ≤ j are in one frame: their depths are equal, and none between them is less
unfoldable pub one_frame : List Event → ℕ → ℕ → Bool
one_frame t i j =
    nat_eq (depth t i) (depth t j) && all_between i j (λ k. nat_le (depth t i) (depth t k))

-- the last entry before j at the depth one less than j's
unfoldable pub entry_of : List Event → ℕ → Option ℕ
entry_of t j = last_below j (λ k. is_enter (event t k) && nat_eq (depth t k + 1) (depth t j))

-- the kind of the frame that an entry opens
abbrev pub frame_opened : Option Event → Frame
frame_opened (Some (Enter Hard)) = Hardirq
frame_opened (Some (Enter Soft)) = Softirq
frame_opened _ = Task

-- the kind of the frame that the entry at this position opened, or the task frame if there is none
abbrev pub kind_from : List Event → Option ℕ → Frame
kind_from t None = Task
kind_from t (Some k) = frame_opened (event t k)

-- the kind of the frame at j
unfoldable pub kind : List Event → ℕ → Frame
kind t j = kind_from t (entry_of t j)

-- it is the task frame
abbrev pub is_task : Frame → Bool
is_task Task = true
is_task Softirq = false
is_task Hardirq = false
