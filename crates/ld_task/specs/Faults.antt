-- The codes of refused events.
use Rattle.std.specs.Prelude.{ℕ, List, codes}
use Rattle.ld_task.specs.declared.fault.StepFault.{StepFault}
use Rattle.ld_task.specs.declared.fault.StepFault.TheVariants.{NotHeld, TooDeep, BadEnter, LeaveTask, LeaveHeld, BadFlag}

-- the fault's number and name [this project's own]
abbrev pub code_of : StepFault → List ℕ
code_of NotHeld = codes "S1 NotHeld"
code_of TooDeep = codes "S2 TooDeep"
code_of BadEnter = codes "S3 BadEnter"
code_of LeaveTask = codes "S4 LeaveTask"
code_of LeaveHeld = codes "S5 LeaveHeld"
code_of BadFlag = codes "S6 BadFlag"
