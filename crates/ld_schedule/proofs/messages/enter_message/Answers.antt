use Rattle.ld_schedule.proofs.Names.{Does, Give, refl, ℕ}
use Rattle.ld_schedule.proofs.Reading.{action_read, does_read}
use Rattle.ld_schedule.proofs.MessageSteps.{gets_rightly, given_at, gives_more, gives_rightly, known, nothing_twice, stays}
use Rattle.ld_schedule.proofs.messages.enter_message.Goals as goal

pub bounds-givings-message : goal.bounds-givings-message
bounds-givings-message c =
    c.requires.before.room c.args.position _ _ c.in-Give.message (does_read c.args.steps.now c.args.position _ _ c.requires.here c.in-Give.is) refl

pub bounds-givings-message-in-Get : goal.bounds-givings-message-in-Get
bounds-givings-message-in-Get c =
    c.requires.before.room c.args.position _ _ c.in-Get.message (does_read c.args.steps.now c.args.position _ _ c.requires.here c.in-Get.is) refl

pub returns-then-givings-message : goal.returns-then-givings-message
returns-then-givings-message c =
    let does = does_read c.args.steps.now c.args.position _ _ c.requires.here c.in-Give.is in
    let room = c.requires.before.room c.args.position _ _ c.in-Give.message does refl in
    (_, c.in-Give.message, does, given_at c.args.steps.now c.args.position c.args.givings.now c.requires.few c.requires.here c.requires.before c.in-Give.message room c.if-givings-message.true)

pub returns-then-givings-message-2 : goal.returns-then-givings-message-2
returns-then-givings-message-2 c =
    let does = does_read c.args.steps.now c.args.position _ _ c.requires.here c.in-Get.is in
    (_, c.in-Get.message, does, (λ before. known c.args.steps.now c.args.position c.args.givings.now c.requires.few c.requires.here c.requires.before c.in-Get.message before c.if-givings-message-2.true))

pub returns-else-givings-message : goal.returns-else-givings-message
returns-else-givings-message c =
    let does = does_read c.args.steps.now c.args.position _ _ c.requires.here c.in-Give.is in (
      gives_more c.args.steps.now c.args.position c.args.givings.now c.requires.few c.requires.here c.requires.before _ c.in-Give.message does c.if-givings-message.false,
      gives_rightly c.args.steps.now c.args.position c.args.givings.now c.requires.few c.requires.here c.requires.before _ c.in-Give.message does c.if-givings-message.false,
    )

pub returns-else-givings-message-2 : goal.returns-else-givings-message-2
returns-else-givings-message-2 c =
    let does = does_read c.args.steps.now c.args.position _ _ c.requires.here c.in-Get.is in
    let room = c.requires.before.room c.args.position _ _ c.in-Get.message does refl in
    gets_rightly c.args.steps.now c.args.position c.args.givings.now c.requires.few c.requires.here c.requires.before _ c.in-Get.message does room c.if-givings-message-2.false

pub returns-in_default : goal.returns-in_default
returns-in_default c =
    let nothing : (giver m : ℕ) → ¬ Does c.args.steps.now c.args.position giver (Give m) = λ giver m gives.
    c.in_default.not-Give m (action_read c.args.steps.now c.args.position giver _ _ gives) in (
      stays c.args.steps.now c.args.position c.args.givings.now c.requires.few c.requires.here c.requires.before nothing,
      (
        nothing_twice c.args.steps.now c.args.position c.args.givings.now c.requires.few c.requires.here c.requires.before nothing,
        (λ (t, m, does, none). c.in_default.not-Get m (action_read c.args.steps.now c.args.position t _ _ does)),
      ),
    )
