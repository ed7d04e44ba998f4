use Rattle.ld_schedule.proofs.Names.{Does, ap, arith, cases_lt, inl, inr, slice_get_within, Some, subst, ◌∙◌, ◌≡◌}
use Rattle.ld_schedule.specs.Inside.HistoryTables.{lock_named, message_named}
use Rattle.ld_schedule.proofs.Reading.{action_read, task_read}
use Rattle.ld_schedule.proofs.counts.Counts.of.Goals as goal

pub loop-step-preserved : goal.loop-step-preserved
loop-step-preserved c = record {
  tasks = λ p task upto is_of. let keeps = c.above-tasks.ensures.keeps in elim (cases_lt p c.loop-step.step-index) [
    | inl before ↦ let old = c.loop-step.invariant.tasks p task before is_of in omega arith
    | inr late ↦
        let e : p ≡ c.loop-step.step-index = omega arith in
        let here : Does c.args.steps.now c.loop-step.step-index task is_of.0 = subst (λ x. Does c.args.steps.now x task is_of.0) e is_of.1 in
        c.above-tasks.ensures.above task (ap (λ t. Some t) (task_read c.args.steps.now c.loop-step.step-index task _ is_of.0 here))
  ];
  locks = λ p task action lock upto does about. let keeps = c.above-locks.ensures.keeps in elim (cases_lt p c.loop-step.step-index) [
    | inl before ↦ let old = c.loop-step.invariant.locks p task action lock before does about in omega arith
    | inr late ↦
        let e : p ≡ c.loop-step.step-index = omega arith in
        let here : Does c.args.steps.now c.loop-step.step-index task action = subst (λ x. Does c.args.steps.now x task action) e does in
        c.above-locks.ensures.above lock (c.lock_of.ensures ∙ ap lock_named (action_read c.args.steps.now c.loop-step.step-index task _ action here) ∙ about)
  ];
  messages = λ p task action message upto does about. let keeps = c.above-messages.ensures.keeps in elim (cases_lt p c.loop-step.step-index) [
    | inl before ↦ let old = c.loop-step.invariant.messages p task action message before does about in omega arith
    | inr late ↦
        let e : p ≡ c.loop-step.step-index = omega arith in
        let here : Does c.args.steps.now c.loop-step.step-index task action = subst (λ x. Does c.args.steps.now x task action) e does in
        c.above-messages.ensures.above message (c.message_of.ensures ∙ ap message_named (action_read c.args.steps.now c.loop-step.step-index task _ action here) ∙ about)
  ];
}

pub returns-clause-tasks : goal.returns-clause-tasks
returns-clause-tasks c p task is_of =
    let within = slice_get_within c.args.steps.now p _ is_of.1 in
    c.loop-step.invariant.tasks p task (omega arith) is_of

pub returns-clause-locks : goal.returns-clause-locks
returns-clause-locks c p task action lock does about =
    let within = slice_get_within c.args.steps.now p _ does in
    c.loop-step.invariant.locks p task action lock (omega arith) does about

pub returns-clause-messages : goal.returns-clause-messages
returns-clause-messages c p task action message does about =
    let within = slice_get_within c.args.steps.now p _ does in
    c.loop-step.invariant.messages p task action message (omega arith) does about
