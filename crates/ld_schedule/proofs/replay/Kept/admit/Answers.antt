use Rattle.ld_schedule.proofs.Names.{Covers, Blocks, Get, HoldMode, IsTrue, None, Option, Take, arith, get_or, get_or_default, is_below, refl, subst, sym, ◌∙◌}
use Rattle.ld_schedule.proofs.Below.{test_read}
use Rattle.ld_schedule.proofs.Reading.{does_at, step_at}
use Rattle.ld_schedule.proofs.Replays.{gets, never_below, others, passed_over, some_below, takes_kept, takes_released}
use Rattle.ld_schedule.proofs.replay.Kept.admit.Goals as goal

pub returns-then-not-is_below : goal.returns-then-not-is_below
returns-then-not-is_below c _ =
    passed_over c.args.history.now.steps c.args.cut.now c.requires.few c.requires.well_formed c.args.position c.requires.here c.args.self.now.modes.items c.args.self.now.takings.items c.requires.before (test_read c.args.history.now.steps c.args.cut.now c.args.position c.step-step.result c.step-step.ensures ∙ sym c.is_below.ensures ∙ c.if-not-is_below.true)

pub step-requires : goal.step-requires
step-requires c =
    let does = does_at c.args.history.now.steps c.args.position c.step-step.result (Get c.in-Get.message) c.step-step.ensures c.in-Get.is in
    let at = c.giving_of-giving.ensures.given c.args.position c.step-step.result.task does in
    let less = at.0 in let here = c.requires.here in omega arith

pub returns-in-Get : goal.returns-in-Get
returns-in-Get c is =
    let below : IsTrue (is_below c.args.history.now.steps c.args.cut.now c.args.position) = test_read c.args.history.now.steps c.args.cut.now c.args.position c.step-step.result c.step-step.ensures ∙ sym c.is_below.ensures ∙ c.if-not-is_below.false in
    let does = does_at c.args.history.now.steps c.args.position c.step-step.result (Get c.in-Get.message) c.step-step.ensures c.in-Get.is in
    let at = c.giving_of-giving.ensures.given c.args.position c.step-step.result.task does in
    gets c.args.history.now.steps c.args.cut.now c.requires.few c.requires.well_formed c.args.position c.requires.here c.args.self.now.modes.items c.args.self.now.takings.items c.requires.before below c.step-step.result.task c.in-Get.message c.giving_of-giving.result does at
    (test_read c.args.history.now.steps c.args.cut.now c.giving_of-giving.result c.step.result c.step.ensures ∙ sym c.is_below-in-Get.ensures ∙ is)

pub index-kept-requires : goal.index-kept-requires
index-kept-requires c =
    let does = does_at c.args.history.now.steps c.args.position c.step-step.result (Take c.in-Take.lock c.in-Take.mode c.in-Take.wait) c.step-step.ensures c.in-Take.is in
    let room = c.requires.before.kept.room c.args.position _ _ c.in-Take.lock does refl in omega arith

pub returns-then-release_of-cut_of : goal.returns-then-release_of-cut_of
returns-then-release_of-cut_of c _ =
    let below : IsTrue (is_below c.args.history.now.steps c.args.cut.now c.args.position) = test_read c.args.history.now.steps c.args.cut.now c.args.position c.step-step.result c.step-step.ensures ∙ sym c.is_below.ensures ∙ c.if-not-is_below.false in
    let does = does_at c.args.history.now.steps c.args.position c.step-step.result (Take c.in-Take.lock c.in-Take.mode c.in-Take.wait) c.step-step.ensures c.in-Take.is in
    let room = c.requires.before.kept.room c.args.position _ _ c.in-Take.lock does refl in
    let kept_is = c.index-kept.ensures ∙ get_or_default c.args.self.now.modes.items c.in-Take.lock c.index-kept.result.now None room in
    let free : (m : HoldMode) → Covers (get_or c.args.self.now.modes.items c.in-Take.lock None) m → ¬ Blocks m c.in-Take.mode = λ m covers.
    c.if-blocks.ensures m (subst (λ (x : Option HoldMode). Covers x m) (sym kept_is) covers) in
    let cut_is = c.cut_of.ensures in let fits = c.cut_of.type_inv in
    let is = c.release_of.ensures c.step-step.result.task c.in-Take.lock c.in-Take.mode (c.in-Take.wait, does) in
    takes_released c.args.history.now.steps c.args.cut.now c.requires.few c.requires.well_formed c.args.position c.requires.here c.args.self.now.modes.items c.args.self.now.takings.items c.requires.before below c.step-step.result.task c.in-Take.lock c.in-Take.mode c.in-Take.wait does free
    (some_below c.args.history.now.steps c.args.cut.now c.requires.few c.requires.well_formed c.args.position c.step-step.result.task c.in-Take.lock c.release_of.result is (omega arith) (omega arith))

pub index_mut-requires : goal.index_mut-requires
index_mut-requires c =
    let does = does_at c.args.history.now.steps c.args.position c.step-step.result (Take c.in-Take.lock c.in-Take.mode c.in-Take.wait) c.step-step.ensures c.in-Take.is in
    let room = c.requires.before.kept.room c.args.position _ _ c.in-Take.lock does refl in omega arith

pub returns-in_ok-push-in-Take : goal.returns-in_ok-push-in-Take
returns-in_ok-push-in-Take c _ =
    let below : IsTrue (is_below c.args.history.now.steps c.args.cut.now c.args.position) = test_read c.args.history.now.steps c.args.cut.now c.args.position c.step-step.result c.step-step.ensures ∙ sym c.is_below.ensures ∙ c.if-not-is_below.false in
    let does = does_at c.args.history.now.steps c.args.position c.step-step.result (Take c.in-Take.lock c.in-Take.mode c.in-Take.wait) c.step-step.ensures c.in-Take.is in
    let room = c.requires.before.kept.room c.args.position _ _ c.in-Take.lock does refl in
    let kept_is = c.index-kept.ensures ∙ get_or_default c.args.self.now.modes.items c.in-Take.lock c.index-kept.result.now None room in
    let free : (m : HoldMode) → Covers (get_or c.args.self.now.modes.items c.in-Take.lock None) m → ¬ Blocks m c.in-Take.mode = λ m covers.
    c.if-blocks.ensures m (subst (λ (x : Option HoldMode). Covers x m) (sym kept_is) covers) in
    let cut_is = c.cut_of.ensures in let fits = c.cut_of.type_inv in
    let is = c.release_of.ensures c.step-step.result.task c.in-Take.lock c.in-Take.mode (c.in-Take.wait, does) in
    rw c.in_ok-push-in-Take.ensures.items
    (takes_kept c.args.history.now.steps c.args.cut.now c.requires.few c.requires.well_formed c.args.position c.requires.here c.args.self.now.modes.items c.args.self.now.takings.items c.requires.before below c.step-step.result.task c.in-Take.lock c.in-Take.mode c.in-Take.wait does free
    (never_below c.args.history.now.steps c.args.cut.now c.requires.few c.requires.well_formed c.args.position c.step-step.result.task c.in-Take.lock c.release_of.result is (omega arith))
    c.stronger.result c.stronger.ensures.mode
    (λ m covers. c.stronger.ensures.kept m (subst (λ (x : Option HoldMode). Covers x m) (sym kept_is) covers)) room)

pub returns-in_default : goal.returns-in_default
returns-in_default c _ =
    let below : IsTrue (is_below c.args.history.now.steps c.args.cut.now c.args.position) = test_read c.args.history.now.steps c.args.cut.now c.args.position c.step-step.result c.step-step.ensures ∙ sym c.is_below.ensures ∙ c.if-not-is_below.false in
    others c.args.history.now.steps c.args.cut.now c.requires.few c.requires.well_formed c.args.position c.requires.here c.args.self.now.modes.items c.args.self.now.takings.items c.requires.before below
    (λ t m gets'. let e = (step_at c.args.history.now.steps c.args.position t c.step-step.result (Get m) c.step-step.ensures gets').1 in c.in_default.not-Get m e)
    (λ t l m takes. let e = (step_at c.args.history.now.steps c.args.position t c.step-step.result (Take l m takes.0) c.step-step.ensures takes.1).1 in c.in_default.not-Take l m takes.0 e)
