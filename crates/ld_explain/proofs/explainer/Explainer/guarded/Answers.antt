use Rattle.ld_explain.proofs.FindingLemmas.{AddsThose-more_item}
use Rattle.ld_explain.proofs.explainer.Explainer.guarded.Goals as goal

pub loop-d-preserved : goal.loop-d-preserved
loop-d-preserved c = AddsThose-more_item _ _ _ _ _ _ _ c.d-item.is c.loop-d-test.true c.loop-d.invariant c.in_ok-add_guarded.ensures
