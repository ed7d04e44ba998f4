-- Which steps make a history, and how others are refused.
use Rattle.std.specs.Prelude.{◌≡◌, ◌<◌, List, length}
use Rattle.ld_schedule.specs.declared.step.Step.{Step}
use Rattle.ld_schedule.specs.declared.step.LockKind.{LockKind}
use Rattle.ld_schedule.specs.declared.history_fault.HistoryFault.{HistoryFault}
use Rattle.ld_schedule.specs.declared.history_fault.HistoryFault.TheVariants.{NotWellFormed, TooManySteps, Memory}
use Rattle.ld_schedule.specs.declared.history.TheConstants.{MAX_STEPS}
use Rattle.ld_schedule.specs.Histories.{HistoryParts}
use Rattle.ld_schedule.specs.WellFormed.{IsWellFormed, IsFirstFault}

-- the history is of these steps and kinds, and well formed
pub record IsMadeOf (steps : List Step) (kinds : List LockKind) (h : HistoryParts) : Type 0 where
  pub steps_are : h.steps ≡ steps
  pub kinds_are : h.kinds ≡ kinds
  pub well_formed : IsWellFormed h.steps

-- the refusal names the first step that has a fault, or says that there are too many, or that memory was refused
abbrev pub IsRefusal : List Step → HistoryFault → Type 0
IsRefusal steps (NotWellFormed p fault) = IsFirstFault steps p fault
IsRefusal steps TooManySteps = MAX_STEPS < length steps
IsRefusal steps Memory = Unit {0}
