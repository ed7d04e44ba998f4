use Rattle.ld_schedule.proofs.Standstills.{keeps_at}
use Rattle.ld_schedule.proofs.standing.is_kept.Goals as goal

pub returns-then-takes_against : goal.returns-then-takes_against
returns-then-takes_against c _ =
    keeps_at c.args.history.now.steps c.args.cut.now _ c.step-holder.result c.args.task c.args.lock c.args.mode
    (c.requires c.loop-q.q-index _ c.loop-q-test.true) c.step-holder.ensures c.if-holder-task.true (c.takes_against.ensures c.if-takes_against.true)
