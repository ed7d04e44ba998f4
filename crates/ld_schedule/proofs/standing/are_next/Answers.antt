use Rattle.ld_schedule.proofs.Names.{All, All-more, IsNext, arith, below, subst, take_all}
use Rattle.ld_schedule.proofs.standing.are_next.Goals as goal

pub loop-p-preserved : goal.loop-p-preserved
loop-p-preserved c =
    All-more (IsNext c.args.history.now.steps (below c.args.history.now.steps c.args.cut.now)) c.args.ring.now c.loop-p.p-index 0
    c.loop-p-test.true c.loop-p.invariant (c.is_next.ensures c.if-not-is_next.false)

pub returns : goal.returns
returns c _ =
    subst (All (IsNext c.args.history.now.steps (below c.args.history.now.steps c.args.cut.now)))
    (take_all c.loop-p.p-index c.args.ring.now (omega arith)) c.loop-p.invariant
