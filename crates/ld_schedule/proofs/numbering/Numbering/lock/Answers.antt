use Rattle.std.proofs.Common.{◌∙◌, sym}
use Rattle.ld_schedule.proofs.TableLemmas.{with_lock-known, with_lock-new}
use Rattle.ld_schedule.proofs.numbering.Numbering.lock.Goals as goal

pub returns-in_ok-push-clause-numbers : goal.returns-in_ok-push-clause-numbers
returns-in_ok-push-clause-numbers c =
    rw (← c.self.view_is, c.in_ok-lock.ensures.names, c.in_ok-push.ensures.items)
    (with_lock-new _ c.args.name.now.text.now c.args.kind (sym c.in_ok-lock.ensures.value ∙ c.if-lock-before.true ∙ c.len-before.ensures))

pub returns-else-lock-before-clause-numbers : goal.returns-else-lock-before-clause-numbers
returns-else-lock-before-clause-numbers c =
    rw (← c.self.view_is, c.in_ok-lock.ensures.names)
    (with_lock-known _ c.args.name.now.text.now c.args.kind (λ e. c.if-lock-before.false (c.in_ok-lock.ensures.value ∙ e ∙ sym c.len-before.ensures)))
