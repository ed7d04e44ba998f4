use Rattle.ld_schedule.proofs.Names.{MatchOption-at_none}
use Rattle.ld_schedule.proofs.NoFault.{none_faulty_more}
use Rattle.ld_schedule.proofs.history.go_over.Goals as goal

pub loop-position-preserved : goal.loop-position-preserved
loop-position-preserved c =
    let takings = MatchOption-at_none _ _ c.in_default.is c.in_ok-fault.ensures in
    let messages = c.in_default-enter_message.ensures in
    record {
      none_faulty = none_faulty_more c.args.steps.now c.loop-position.position c.loop-position.invariant.none_faulty takings.1 messages.1;
      takings_are = takings.0;
      givings_are = messages.0;
    }
