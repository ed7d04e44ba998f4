use Rattle.std.proofs.Common.{All, arith, length, take, ◌<◌}
use Rattle.std.proofs.lemmas.List.{take_all, take_more}
use Rattle.std.proofs.lemmas.List.Elements.{All-push}
use Rattle.ld_schedule.specs.Histories.{IsOf}
use Rattle.ld_schedule.proofs.judging.are_of.Goals as goal

pub loop-position-preserved : goal.loop-position-preserved
loop-position-preserved c =
    let lt : c.loop-position.position-index < length c.args.list.now = omega arith in
    rw (take_more c.args.list.now c.loop-position.position-index 0 lt)
    (All-push (IsOf c.args.steps.now c.args.task) (take c.loop-position.position-index c.args.list.now) _ c.loop-position.invariant (c.is_of.ensures c.if-not-is_of.false))

pub returns : goal.returns
returns c = λ e. rw (take_all c.loop-position.position-index c.args.list.now (omega arith)) at c.loop-position.invariant
