use Rattle.ld_schedule.proofs.Names.{MatchOption-at_none, MatchOption-at_some}
use Rattle.ld_schedule.proofs.Closings.{keeps_more, refutes_after}
use Rattle.ld_schedule.proofs.closure.settle_with.Goals as goal

pub returns-in-Some : goal.returns-in-Some
returns-in-Some c =
    refutes_after c.args.order c.args.history.now _ _ c.loop-reader.invariant (MatchOption-at_some _ _ c.in-Some.end c.in-Some.is c.in_ok-end.ensures)

pub loop-reader-preserved : goal.loop-reader-preserved
loop-reader-preserved c =
    keeps_more c.args.order c.args.history.now _ _ _ c.loop-reader.invariant (MatchOption-at_none _ _ c.in_default.is c.in_ok-end.ensures)
