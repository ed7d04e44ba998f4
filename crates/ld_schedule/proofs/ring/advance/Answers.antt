use Rattle.ld_schedule.proofs.Names.{All-contains, AreOfOneTask, MatchOption-at_none, MatchOption-at_some, lists_of}
use Rattle.ld_schedule.proofs.RingClosings.{lists_at}
use Rattle.ld_schedule.proofs.ring.advance.Goals as goal

pub go_to-requires : goal.go_to-requires
go_to-requires c =
    All-contains (AreOfOneTask c.args.history.now.steps) (lists_of c.args.ring.now) _ c.requires (lists_at c.args.ring.now c.loop-k.k _ c.loop-k-test.true)

pub returns-in-Some : goal.returns-in-Some
returns-in-Some c forced =
    MatchOption-at_some _ _ c.in-Some.end c.in-Some.is c.in_ok-end.ensures (lists_of c.args.ring.now)
    (lists_at c.args.ring.now c.loop-k.k _ c.loop-k-test.true) (c.loop-k.invariant forced)

pub loop-k-preserved : goal.loop-k-preserved
loop-k-preserved c forced =
    MatchOption-at_none _ _ c.in_default.is c.in_ok-end.ensures (lists_of c.args.ring.now)
    (lists_at c.args.ring.now c.loop-k.k _ c.loop-k-test.true) (c.loop-k.invariant forced)
