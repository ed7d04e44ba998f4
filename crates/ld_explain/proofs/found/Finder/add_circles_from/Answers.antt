use Rattle.ld_explain.proofs.Names.{arrow, kinds, map}
use Rattle.ld_explain.proofs.FindingLemmas.{AddsThose-next_item}
use Rattle.ld_explain.proofs.found.Finder.add_circles_from.Goals as goal

pub loop-to-preserved : goal.loop-to-preserved
loop-to-preserved c = AddsThose-next_item _ (λ to. map (arrow c.args.from to) kinds) _ _ _ _ _ _ c.to-item.is c.loop-to-test.true c.loop-to.invariant c.in_ok-add_circles_to.ensures
