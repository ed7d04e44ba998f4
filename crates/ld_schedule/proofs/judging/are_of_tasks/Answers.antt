use Rattle.std.proofs.Common.{[], ◌<◌, ◌∷◌, List, arith, get_or, length, take, ℕ}
use Rattle.std.proofs.lemmas.List.{map-append, take_all, take_more}
use Rattle.std.proofs.lemmas.List.Elements.{All-push}
use Rattle.std.specs.Borrow.{Bor}
use Rattle.ld_schedule.specs.Decisions.{AreOfOneTask, lists_of}
use Rattle.ld_schedule.proofs.judging.are_of_tasks.Goals as goal

pub loop-list-preserved : goal.loop-list-preserved
loop-list-preserved c =
    let lt : c.loop-list.list-index < length c.args.ring.now = omega arith in
    let none : Bor (List ℕ) = record { ref_ptr = (0, 0); now = [] } in
    let item = get_or c.args.ring.now c.loop-list.list-index none in
    rw (take_more c.args.ring.now c.loop-list.list-index none lt, map-append (λ (list : Bor (List ℕ)). list.now) (take c.loop-list.list-index c.args.ring.now) (item ∷ []))
    (All-push (AreOfOneTask c.args.steps.now) (lists_of (take c.loop-list.list-index c.args.ring.now)) item.now c.loop-list.invariant (c.are_of_one_task.ensures c.if-not-are_of_one_task.false))

pub returns : goal.returns
returns c = λ e. rw (take_all c.loop-list.list-index c.args.ring.now (omega arith)) at c.loop-list.invariant
