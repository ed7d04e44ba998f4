use Rattle.ld_schedule.proofs.Names.{Forces, KeptBy, MustFollow, subst, sym, ◌+◌, slice_get_within}
use Rattle.ld_schedule.proofs.Closings.{forced_release, never_released, raised}
use Rattle.ld_schedule.proofs.Reading.{step_at}
use Rattle.ld_schedule.proofs.growth.Growth.settle.Goals as goal

pub step-requires : goal.step-requires
step-requires c =
    let m = subst (λ x. MustFollow c.args.order c.args.history.now x c.args.taken c.args.later) c.deref.ensures.value (c.must_follow.ensures c.if-not-must_follow.false) in
    slice_get_within c.args.history.now.steps c.args.taken _ m.takes.1

pub returns-then-release : goal.returns-then-release
returns-then-release c ring forced =
    let m = subst (λ x. MustFollow c.args.order c.args.history.now x c.args.taken c.args.later) c.deref.ensures.value (c.must_follow.ensures c.if-not-must_follow.false) in
    never_released (KeptBy c.args.order c.args.history.now) c.args.history.now.steps ring m.few c.args.self.now.cut.items forced c.args.taken c.args.later m.task m.other m.lock m.mode m.other_mode m.earlier m.takes m.takes_later m.differ m.blocks m.kept m.taken_below m.later_below c.release_of-release.result (c.release_of-release.ensures m.task m.lock m.mode m.takes) c.if-release.true

pub returns : goal.returns
returns c ring forced =
    let m = subst (λ x. MustFollow c.args.order c.args.history.now x c.args.taken c.args.later) c.deref.ensures.value (c.must_follow.ensures c.if-not-must_follow.false) in
    let same = (step_at c.args.history.now.steps c.args.taken m.task c.step.result _ c.step.ensures m.takes.1).0 in
    raised (KeptBy c.args.order c.args.history.now) c.args.history.now.steps ring _ _ c.step.result.task (c.release_of-release.result + 1) forced
    (subst (λ t. Forces (KeptBy c.args.order c.args.history.now) c.args.history.now.steps ring t (c.release_of-release.result + 1)) (sym same)
    (forced_release (KeptBy c.args.order c.args.history.now) c.args.history.now.steps ring m.few c.args.self.now.cut.items forced c.args.taken c.args.later m.task m.other m.lock m.mode m.other_mode m.earlier m.takes m.takes_later m.differ m.blocks m.kept m.taken_below m.later_below c.release_of-release.result (c.release_of-release.ensures m.task m.lock m.mode m.takes))) c.raise.ensures
