use Rattle.ld_explain.proofs.Names.{arrow, flat_map, kinds, map}
use Rattle.ld_explain.proofs.FindingLemmas.{AddsThose-next_item}
use Rattle.ld_explain.proofs.found.Finder.add_circles.Goals as goal

pub loop-from-preserved : goal.loop-from-preserved
loop-from-preserved c = AddsThose-next_item _ (λ from. flat_map (λ to. map (arrow from to) kinds) c.args.self.keys.now) _ _ _ _ _ _ c.from-item.is c.loop-from-test.true c.loop-from.invariant c.in_ok-add_circles_from.ensures
