-- The history that the bytes of a text stand for.
use Rattle.std.specs.Prelude.{◌≡◌, ◌≤◌, ℕ, false, List, Option, IfSome, slice_index}
use Rattle.ld_schedule.specs.declared.named_history.NamedHistory.{NamedHistory}
use Rattle.ld_schedule.specs.declared.named_history.HistoryRefusal.{HistoryRefusal}
use Rattle.ld_schedule.specs.declared.named_history.HistoryRefusal.TheVariants.{Text, Step}
use Rattle.ld_schedule.specs.declared.history_fault.StepFault.{StepFault}
use Rattle.ld_schedule.specs.declared.history_fault.HistoryFault.{HistoryFault}
use Rattle.ld_schedule.specs.declared.history_fault.HistoryFault.TheVariants.{NotWellFormed, TooManySteps, Memory}
use Rattle.ld_schedule.specs.Reading.{Draft, ReadsTo, StopsAt}
use Rattle.ld_schedule.specs.ReadFaults.{is_of_text}
use Rattle.ld_schedule.specs.Refusals.{IsMadeOf}
use Rattle.ld_schedule.specs.WellFormed.{IsFirstFault}

-- the history is of the steps that were read, and has the names and records that were read
pub record IsHistoryOf (draft : Draft) (named : NamedHistory) : Type 0 where
  pub history : IsMadeOf draft.steps draft.numbers.kinds named.history
  pub tasks : named.tasks ≡ draft.numbers.tasks
  pub locks : named.locks ≡ draft.numbers.locks
  pub records : named.records.items ≡ draft.records

-- what was read makes no history: the step of the record with this number is the first that can't come where it stands
pub record IsIllFormed (draft : Draft) (number : ℕ) (fault : StepFault) : Type 0 where
  pub at : ℕ
  pub first : IsFirstFault draft.steps at fault
  pub number_is : number ≡ slice_index draft.records at

-- these bytes, if they are known, are the text of this history
abbrev pub IsTextOf : Option (List ℕ) → NamedHistory → Type 0
IsTextOf known named = IfSome known (λ bytes. (draft : Draft) × ReadsTo bytes draft × IsHistoryOf draft named)

-- these bytes, if they are known, are refused so
abbrev pub IsRefusedAs : Option (List ℕ) → HistoryRefusal → Type 0
IsRefusedAs known (Text fault) = IfSome known (λ bytes. StopsAt bytes fault.kind fault.at)
IsRefusedAs known (Step number fault) = IfSome known (λ bytes. (draft : Draft) × ReadsTo bytes draft × IsIllFormed draft number fault)

-- what was read is no history, for this reason, which isn't one of its text
abbrev pub IsRefusedDraft : Draft → HistoryRefusal → Type 0
IsRefusedDraft draft (Text fault) = (is_of_text fault.kind ≡ false) × (1 ≤ fault.at)
IsRefusedDraft draft (Step number fault) = IsIllFormed draft number fault

-- the refusal isn't one of the text
abbrev pub IsNotOfText : HistoryRefusal → Type 0
IsNotOfText (Text fault) = (is_of_text fault.kind ≡ false) × (1 ≤ fault.at)
IsNotOfText (Step number fault) = ⊥

-- the refusal of steps of these records with this fault
abbrev pub IsRefusalOf : HistoryFault → List ℕ → HistoryRefusal → Type 0
IsRefusalOf (NotWellFormed at why) records (Step number fault) = (number ≡ slice_index records at) × (fault ≡ why)
IsRefusalOf (NotWellFormed at why) records (Text fault) = ⊥
IsRefusalOf TooManySteps records refusal = IsNotOfText refusal
IsRefusalOf Memory records refusal = IsNotOfText refusal
