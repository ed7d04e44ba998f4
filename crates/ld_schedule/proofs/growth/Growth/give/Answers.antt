use Rattle.ld_schedule.proofs.Names.{Forces, KeptBy, ltb-true, slice_index, subst, sym, ◌+◌, ◌<◌, ◌∙◌}
use Rattle.ld_schedule.proofs.Closings.{forced_giving, raised}
use Rattle.ld_schedule.proofs.Reading.{step_at}
use Rattle.ld_schedule.proofs.growth.Growth.give.Goals as goal

pub returns : goal.returns
returns c order ring forced =
    let gets = c.requires.gets in
    let given = c.giving_of-giving.ensures.given c.args.position gets.0 gets.1 in
    let less = ltb-true _ _ (sym c.is_below.ensures ∙ c.if-not-is_below.false) in
    let of_task = (step_at c.args.history.now.steps c.args.position gets.0 c.step.result _ c.step.ensures gets.1).0 in
    let below : c.args.position < slice_index c.args.self.now.cut.items gets.0 =
    subst (λ t. c.args.position < slice_index c.args.self.now.cut.items t) of_task
    (subst (λ x. c.args.position < slice_index x c.step.result.task) c.deref.ensures.value less) in
    let of_giver = (step_at c.args.history.now.steps c.giving_of-giving.result given.1.0 c.step-giver.result _ c.step-giver.ensures given.1.1).0 in
    raised (KeptBy order c.args.history.now) c.args.history.now.steps ring _ _ c.step-giver.result.task (c.giving_of-giving.result + 1) forced
    (subst (λ t. Forces (KeptBy order c.args.history.now) c.args.history.now.steps ring t (c.giving_of-giving.result + 1)) (sym of_giver)
    (forced_giving (KeptBy order c.args.history.now) c.args.history.now.steps ring c.args.self.now.cut.items forced c.args.position gets.0
    c.args.message c.giving_of-giving.result given.1.0 below gets.1 c.giving_of-giving.ensures.only given.1.1)) c.raise.ensures
