use Rattle.std.proofs.Common.{subst}
use Rattle.ld_schedule.specs.NamedHistories.{IsRefusalOf}
use Rattle.ld_schedule.specs.Reading.{Draft}
use Rattle.ld_schedule.specs.Refusals.{IsRefusal}
use Rattle.ld_schedule.proofs.RefusalLemmas.{refused-draft}
use Rattle.ld_schedule.proofs.named_history.history_of.Goals as goal

pub returns-in-Err-clause-refused : goal.returns-in-Err-clause-refused
returns-in-Err-clause-refused c =
    let steps = subst (λ (d : Draft). IsRefusal d.steps c.in-Err.fault) c.draft.view_is c.in-Err.ensures in
    let records = subst (λ (d : Draft). IsRefusalOf c.in-Err.fault d.records c.refusal_of.result) c.draft.view_is (rw c.as_slice.ensures.value at c.refusal_of.ensures) in
    refused-draft c.args.draft c.in-Err.fault c.refusal_of.result steps records
