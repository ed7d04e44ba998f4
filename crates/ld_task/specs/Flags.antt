-- What an interrupt state is in a frame, and whether it is on there [this project's own; the states are those of "State"].
use Rattle.std.specs.Prelude.{ℕ, Bool, true, ◌&&◌, List, Option, Some, None, false}
use Rattle.ld_task.specs.Events.{event, changes_flag, is_turn_on}
use Rattle.ld_task.specs.Frames.{is_task, one_frame, kind}
use Rattle.ld_task.specs.Positions.{last_below}
use Rattle.ld_task.specs.declared.frame.Flags.{Flags}
use Rattle.ld_task.specs.declared.frame.Frame.{Frame}
use Rattle.ld_task.specs.declared.frame.Frame.TheVariants.{Task, Softirq, Hardirq}
use Rattle.ld_trace.specs.declared.event.Event.{Event}
use Rattle.ld_trace.specs.declared.event.Irq.{Irq}
use Rattle.ld_trace.specs.declared.event.Irq.TheVariants.{Hard, Soft}

-- whether a state is on
abbrev pub is_on : Irq → Flags → Bool
is_on Hard flags = flags.hard_on
is_on Soft flags = flags.soft_on

-- the flags that say this of each state
abbrev pub flags_of : (Irq → Bool) → Flags
flags_of on = record { hard_on = on Hard; soft_on = on Soft }

-- the flags with that of one state set
abbrev pub with_flag : Irq → Bool → Flags → Flags
with_flag Hard on flags = record flags { hard_on = on }
with_flag Soft on flags = record flags { soft_on = on }

-- a use with these flags is one with the state enabled: a softirq comes only if hardirqs are on too
abbrev pub is_enabled : Irq → Flags → Bool
is_enabled Hard flags = is_on Hard flags
is_enabled Soft flags = is_on Hard flags && is_on Soft flags

-- an interrupt of the state may come in a frame of this kind with these flags: a softirq only in the task frame
abbrev pub may_enter : Irq → Frame → Flags → Bool
may_enter Hard frame flags = is_enabled Hard flags
may_enter Soft frame flags = is_task frame && is_enabled Soft flags

-- a use in a frame of this kind is one in the state
abbrev pub is_in : Irq → Frame → Bool
is_in Hard Hardirq = true
is_in Hard Softirq = false
is_in Hard Task = false
is_in Soft Hardirq = false
is_in Soft Softirq = true
is_in Soft Task = false

-- the flag of a state at the start of a frame
abbrev pub starts_on : Irq → Frame → Bool
starts_on Hard Task = true
starts_on Hard Softirq = true
starts_on Hard Hardirq = false
starts_on Soft Task = true
starts_on Soft Softirq = false
starts_on Soft Hardirq = false

-- a frame of this kind may change the flag of this state: one that is off at the start of a frame stays off in it
abbrev pub may_change : Irq → Frame → Bool
may_change irq frame = starts_on irq frame

-- the last change of a state's flag before j in j's frame
unfoldable pub last_change : List Event → Irq → ℕ → Option ℕ
last_change t irq j = last_below j (λ k. changes_flag irq (event t k) && one_frame t k j)

-- what the change at this position sets, or the start value if there is none
abbrev pub flag_from : List Event → Irq → Frame → Option ℕ → Bool
flag_from t irq frame None = starts_on irq frame
flag_from t irq frame (Some k) = is_turn_on (event t k)

-- whether a state is on just before j; just after j is just before j + 1
unfoldable pub flag : List Event → Irq → ℕ → Bool
flag t irq j = flag_from t irq (kind t j) (last_change t irq j)

-- the flags just before j
abbrev pub flags_at : List Event → ℕ → Flags
flags_at t j = flags_of (λ irq. flag t irq j)
