use Rattle.ld_schedule.proofs.Names.{MatchOption-at_none, MatchOption-at_some}
use Rattle.ld_schedule.proofs.Closings.{keeps_more, refutes_after}
use Rattle.ld_schedule.proofs.closure.close.Goals as goal

pub returns-in-Some-2 : goal.returns-in-Some-2
returns-in-Some-2 c =
    refutes_after c.args.order c.args.history.now _ _ c.loop.invariant (MatchOption-at_some _ _ c.in-Some-2.end c.in-Some-2.is c.in_ok-end.ensures)

pub loop-preserved : goal.loop-preserved
loop-preserved c =
    keeps_more c.args.order c.args.history.now _ _ _ c.loop.invariant (MatchOption-at_none _ _ c.in_default-2.is c.in_ok-end.ensures)
