use Rattle.ld_schedule.proofs.Names.{MatchOption-at_none}
use Rattle.ld_schedule.proofs.Closings.{closes_after}
use Rattle.ld_schedule.proofs.closure.meet_writer.Goals as goal

pub returns : goal.returns
returns c =
    closes_after c.args.order c.args.history.now _ _ _ (MatchOption-at_none _ _ c.in_default.is c.in_ok-end.ensures) c.settle-2.result c.settle-2.ensures
