use Rattle.ld_schedule.proofs.Names.{Take, Takes, ltb-true, subst, sym, ◌∙◌}
use Rattle.ld_schedule.proofs.Reading.{does_at}
use Rattle.ld_schedule.proofs.growth.must_follow.Goals as goal

pub returns : goal.returns
returns c kept =
    let second = does_at c.args.history.now.steps c.args.later c.step-second.result (Take c.in-Take-action.other c.in-Take-action.other_mode c.in-Take-action.wait) c.step-second.ensures c.in-Take-action.is in
    record {
      task = c.step-first.result.task;
      other = c.step-second.result.task;
      lock = c.in-Take.lock;
      mode = c.in-Take.mode;
      other_mode = c.in-Take-action.other_mode;
      earlier = c.if-taken-later.false;
      takes = (c.in-Take.wait, does_at c.args.history.now.steps c.args.taken c.step-first.result (Take c.in-Take.lock c.in-Take.mode c.in-Take.wait) c.step-first.ensures c.in-Take.is);
      takes_later = subst (λ x. Takes c.args.history.now.steps c.args.later c.step-second.result.task x c.in-Take-action.other_mode) (sym c.if-lock-other.false) (c.in-Take-action.wait, second);
      differ = c.if-first-second.false;
      blocks = c.blocks-else-lock-other.ensures.0 c.if-not-blocks.false;
      kept = c.keeps_order.ensures kept;
      taken_below = ltb-true _ _ (sym c.is_below.ensures ∙ c.if-not-is_below.false);
      later_below = ltb-true _ _ (sym c.is_below-else-not-is_below.ensures ∙ c.if-not-is_below-2.false);
      few = c.len.ensures.few;
    }
