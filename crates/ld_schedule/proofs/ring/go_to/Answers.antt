use Rattle.ld_schedule.proofs.Names.{Forces, KeptBy, ap, arith, length, slice_get_within, slice_index, subst, sym, ◌<◌, ◌∙◌, ◌≡◌}
use Rattle.std.proofs.lemmas.Bool.{eqb-true, eqb-false}
use Rattle.ld_schedule.proofs.Closings.{raised}
use Rattle.ld_schedule.proofs.Reading.{step_at}
use Rattle.ld_schedule.proofs.RingClosings.{forced_place, none_left}
use Rattle.ld_schedule.proofs.ring.go_to.Goals as goal

pub returns-then-is_empty : goal.returns-then-is_empty
returns-then-is_empty c ring among forced =
    let none : length c.args.list.now ≡ 0 = eqb-true _ _ (sym c.is_empty.ensures ∙ c.if-is_empty.true) in
    none_left (KeptBy c.args.order c.args.history.now) c.args.history.now.steps ring c.args.list.now c.requires among c.args.growth.now.cut.items forced 0 (λ k before. absurd (omega arith)) (omega arith)

pub step-task-requires : goal.step-task-requires
step-task-requires c =
    let some : length c.args.list.now ≡ 0 → ⊥ = eqb-false _ _ (sym c.is_empty.ensures ∙ c.if-is_empty.false) in
    let first = c.requires.each 0 0 (omega arith) in
    slice_get_within c.args.history.now.steps _ _ first.1

pub returns-then-place-list : goal.returns-then-place-list
returns-then-place-list c ring among forced =
    let some : length c.args.list.now ≡ 0 → ⊥ = eqb-false _ _ (sym c.is_empty.ensures ∙ c.if-is_empty.false) in
    let first = c.requires.each 0 0 (omega arith) in
    let task = (step_at c.args.history.now.steps _ c.requires.task c.step-task.result first.0 c.step-task.ensures first.1).0 in
    let cut_is = c.cut_of.ensures ∙ ap (λ x. slice_index x c.step-task.result.task) c.deref.ensures.value ∙ ap (slice_index c.args.growth.now.cut.items) task in
    none_left (KeptBy c.args.order c.args.history.now) c.args.history.now.steps ring c.args.list.now c.requires among c.args.growth.now.cut.items forced c.place_after-place.result
    (λ k before. subst (λ x. slice_index c.args.list.now k < x) cut_is (c.place_after-place.ensures.lower k before)) c.if-place-list.true

pub returns : goal.returns
returns c ring among forced =
    let some : length c.args.list.now ≡ 0 → ⊥ = eqb-false _ _ (sym c.is_empty.ensures ∙ c.if-is_empty.false) in
    let first = c.requires.each 0 0 (omega arith) in
    let task = (step_at c.args.history.now.steps _ c.requires.task c.step-task.result first.0 c.step-task.ensures first.1).0 in
    let cut_is = c.cut_of.ensures ∙ ap (λ x. slice_index x c.step-task.result.task) c.deref.ensures.value ∙ ap (slice_index c.args.growth.now.cut.items) task in
    raised (KeptBy c.args.order c.args.history.now) c.args.history.now.steps ring _ _ c.step-task.result.task (slice_index c.args.list.now c.place_after-place.result) forced
    (subst (λ t. Forces (KeptBy c.args.order c.args.history.now) c.args.history.now.steps ring t (slice_index c.args.list.now c.place_after-place.result)) (sym task)
    (forced_place (KeptBy c.args.order c.args.history.now) c.args.history.now.steps ring c.args.list.now c.requires among c.args.growth.now.cut.items forced c.place_after-place.result
    (λ k before. subst (λ x. slice_index c.args.list.now k < x) cut_is (c.place_after-place.ensures.lower k before)))) c.raise.ensures
