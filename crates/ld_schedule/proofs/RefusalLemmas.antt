-- How a history that was read is refused.
use Rattle.std.proofs.Common.{◌-◌, ◌+◌, ◌<◌, ◌∙◌, ◌≡◌, ◌≤◌, IfErr, IfSome, List, None, Option, Result, Ok, Err, Some, arith, false, refl, subst, suc, sym, true, true≢false, ℕ}
use Rattle.ld_trace.specs.Reading.{records_of}
use Rattle.ld_schedule.specs.declared.history_fault.HistoryFault.{HistoryFault}
use Rattle.ld_schedule.specs.declared.history_fault.HistoryFault.TheVariants.{NotWellFormed, TooManySteps, Memory}
use Rattle.ld_schedule.specs.declared.history_fault.StepFault.{StepFault}
use Rattle.ld_schedule.specs.declared.named_history.HistoryRefusal.{HistoryRefusal}
use Rattle.ld_schedule.specs.declared.named_history.HistoryRefusal.TheVariants.{Text, Step}
use Rattle.ld_schedule.specs.declared.named_history.NamedHistory.{NamedHistory}
use Rattle.ld_schedule.specs.Inside.Progress.{AreRead}
use Rattle.ld_schedule.specs.NamedHistories.{IsIllFormed, IsNotOfText, IsRefusalOf, IsRefusedAs, IsRefusedDraft}
use Rattle.ld_schedule.specs.ReadFaults.{is_of_text}
use Rattle.ld_schedule.specs.Reading.{Draft, ReadsTo, StopsAt}
use Rattle.ld_schedule.specs.Refusals.{IsRefusal}
use Rattle.ld_schedule.specs.WellFormed.{IsFirstFault}

not-of-text : (draft : Draft) (refusal : HistoryRefusal) → IsNotOfText refusal → IsRefusedDraft draft refusal
not-of-text draft (Text fault) h = h
not-of-text draft (Step number fault) h = absurd h

pub refused-draft : (draft : Draft) (fault : HistoryFault) (refusal : HistoryRefusal) → IsRefusal draft.steps fault → IsRefusalOf fault draft.records refusal → IsRefusedDraft draft refusal
refused-draft draft (NotWellFormed at why) (Step number fault) first is = record {
  at = at;
  first = subst (λ (f : StepFault). IsFirstFault draft.steps at f) (sym is.1) first;
  number_is = is.0;
}
refused-draft draft (NotWellFormed at why) (Text fault) first is = absurd is
refused-draft draft TooManySteps refusal many is = not-of-text draft refusal is
refused-draft draft Memory refusal many is = not-of-text draft refusal is

-- the text that was read, refused
refused-text : (known : Option (List ℕ)) (draft : Draft) (refusal : HistoryRefusal) → AreRead known draft → IsRefusedDraft draft refusal → IsRefusedAs known refusal
refused-text None draft (Text fault) read is = tt
refused-text None draft (Step number fault) read is = tt
refused-text (Some bytes) draft (Text fault) read is = record {
  place = fault.at - 1;
  number_is = omega (arith, is.1);
  here = λ own. absurd (true≢false (sym own ∙ is.0));
  before = λ i lt. read.faultless i;
}
refused-text (Some bytes) draft (Step number fault) read is = (draft, read, is)

pub refused-read : (known : Option (List ℕ)) (draft : Draft) (r : Result NamedHistory HistoryRefusal) → AreRead known draft → IfErr r (IsRefusedDraft draft) → IfErr r (IsRefusedAs known)
refused-read known draft (Ok named) read h = tt
refused-read known draft (Err refusal) read h = refused-text known draft refusal read h
