-- The codes of what is wrong with a history.
use Rattle.std.specs.Prelude.{ℕ, List, codes}
use Rattle.ld_schedule.specs.declared.history_fault.StepFault.{StepFault}
use Rattle.ld_schedule.specs.declared.history_fault.StepFault.TheVariants.{TakenByAnother, TakenAgain, NotHeld, GivenTwice, NotGiven}
use Rattle.ld_schedule.specs.declared.named_history.HistoryRefusal.{HistoryRefusal}
use Rattle.ld_schedule.specs.declared.named_history.HistoryRefusal.TheVariants.{Text, Step}
use Rattle.ld_schedule.specs.ReadFaults as text

-- the number and name of why a step can't come where it stands [this project's own]
abbrev pub step_code_of : StepFault → List ℕ
step_code_of TakenByAnother = codes "H9 TakenByAnother"
step_code_of TakenAgain = codes "H10 TakenAgain"
step_code_of NotHeld = codes "H11 NotHeld"
step_code_of GivenTwice = codes "H12 GivenTwice"
step_code_of NotGiven = codes "H13 NotGiven"

abbrev pub code_of : HistoryRefusal → List ℕ
code_of (Text fault) = text.code_of fault.kind
code_of (Step number fault) = step_code_of fault

-- the number of the refused record, counted from 1 with the header
abbrev pub record_of : HistoryRefusal → ℕ
record_of (Text fault) = fault.at
record_of (Step number fault) = number
