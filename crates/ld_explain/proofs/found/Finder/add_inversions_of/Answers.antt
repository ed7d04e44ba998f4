use Rattle.ld_explain.proofs.Names.{map}
use Rattle.ld_explain.proofs.FindingLemmas.{AddsThose-next_item}
use Rattle.ld_explain.proofs.found.Finder.add_inversions_of.Goals as goal

pub loop-a-preserved : goal.loop-a-preserved
loop-a-preserved c = AddsThose-next_item _ (λ a. map (λ b. (c.args.irq, (a, b))) c.args.self.keys.now) _ _ _ _ _ _ c.a-item.is c.loop-a-test.true c.loop-a.invariant c.in_ok-add_inversions_from.ensures
