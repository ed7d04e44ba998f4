use Rattle.ld_explain.proofs.Names.{ChoosesCircles, HasFact, OnCircle, subst, sym, take-item}
use Rattle.ld_explain.proofs.ChoosingLemmas.{circles-more}
use Rattle.ld_explain.proofs.choices.Choices.add_circles.Goals as goal

pub add_circle-requires-clause-on : goal.add_circle-requires-clause-on
add_circle-requires-clause-on c = subst (OnCircle (HasFact c.args.settled.now)) (sym c.d-item.is) (c.requires.on _ _ c.loop-d-test.true)

pub loop-d-preserved : goal.loop-d-preserved
loop-d-preserved c =
    subst (λ ds. ChoosesCircles c.args.settled.now ds c.add_circle.new.self) (sym (take-item c.args.circles.now c.loop-d.d-index _ c.d-item.is c.loop-d-test.true))
    (circles-more c.args.settled.now _ c.d-item.result c.loop-d.self c.add_circle.new.self c.loop-d.invariant c.in_ok-add_circle.ensures)
