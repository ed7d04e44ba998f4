use Rattle.ld_schedule.proofs.Names.{MatchOption-at_none, MatchOption-at_some, lists_of}
use Rattle.ld_schedule.proofs.ring.close_for.Goals as goal

pub returns-in-Some : goal.returns-in-Some
returns-in-Some c forced =
    MatchOption-at_some _ _ c.in-Some.end c.in-Some.is c.in_ok-end.ensures (c.loop.invariant forced)

pub returns-then-len-before : goal.returns-then-len-before
returns-then-len-before c forced =
    MatchOption-at_none _ _ c.in_default.is c.in_ok-end.ensures (c.loop.invariant forced)

pub returns-in-Some-2 : goal.returns-in-Some-2
returns-in-Some-2 c forced =
    MatchOption-at_some _ _ c.in-Some-2.end c.in-Some-2.is c.in_ok-end-2.ensures (lists_of c.args.ring.now)
    (MatchOption-at_none _ _ c.in_default.is c.in_ok-end.ensures (c.loop.invariant forced))

pub loop-preserved : goal.loop-preserved
loop-preserved c forced =
    MatchOption-at_none _ _ c.in_default-2.is c.in_ok-end-2.ensures (lists_of c.args.ring.now)
    (MatchOption-at_none _ _ c.in_default.is c.in_ok-end.ensures (c.loop.invariant forced))
