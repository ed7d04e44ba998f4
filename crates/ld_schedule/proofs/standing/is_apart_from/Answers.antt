use Rattle.ld_schedule.proofs.Names.{All, All-more, IsOf, arith, subst, take_all}
use Rattle.ld_schedule.proofs.Reading.{step_at}
use Rattle.ld_schedule.proofs.standing.is_apart_from.Goals as goal

pub loop-q-preserved : goal.loop-q-preserved
loop-q-preserved c =
    All-more (λ q. ¬ IsOf c.args.history.now.steps c.args.task q) c.args.others.now c.loop-q.q-index 0 c.loop-q-test.true c.loop-q.invariant
    (λ (action, does). c.if-step-task.false (step_at c.args.history.now.steps _ c.args.task c.step.result action c.step.ensures does).0)

pub returns : goal.returns
returns c _ =
    subst (All (λ q. ¬ IsOf c.args.history.now.steps c.args.task q)) (take_all c.loop-q.q-index c.args.others.now (omega arith)) c.loop-q.invariant
