use Rattle.ld_explain.proofs.Names.{◌∙◌, HasFact, IsDouble, IsInversion, OnCircle, ap}
use Rattle.ld_explain.proofs.ChoosingLemmas.{circles-none}
use Rattle.ld_explain.proofs.FindingLemmas.{AreThose-all}
use Rattle.ld_explain.proofs.choices.Choices.of.Goals as goal

pub add_circles-requires-clause-none : goal.add_circles-requires-clause-none
add_circles-requires-clause-none c = circles-none c.args.settled.now _ (c.in_ok-new.ensures.keys ∙ c.keys.ensures.value ∙ ap (λ f. f.keys) c.facts.ensures)
    c.in_ok-new.ensures.none c.new-2.ensures.items

pub add_circles-requires-clause-on : goal.add_circles-requires-clause-on
add_circles-requires-clause-on c = rw c.circles.ensures (AreThose-all (OnCircle (HasFact c.args.settled.now)) _ _ c.requires.1.circles)

pub add_doubles-requires-clause-are : goal.add_doubles-requires-clause-are
add_doubles-requires-clause-are c = rw c.doubles.ensures (AreThose-all (λ x. IsDouble (HasFact c.args.settled.now) x.0 x.1) _ _ c.requires.1.doubles)

pub add_inversions-requires-clause-are : goal.add_inversions-requires-clause-are
add_inversions-requires-clause-are c = rw c.inversions.ensures (AreThose-all (λ x. IsInversion (HasFact c.args.settled.now) x.0 x.1.0 x.1.1) _ _ c.requires.1.inversions)
