use Rattle.ld_explain.proofs.FindingLemmas.{AddsThose-map_next_item}
use Rattle.ld_explain.proofs.found.Finder.add_doubles_of.Goals as goal

pub loop-key-preserved : goal.loop-key-preserved
loop-key-preserved c = AddsThose-map_next_item _ _ _ _ _ _ _ _ c.key-item.is c.loop-key-test.true c.loop-key.invariant c.in_ok-add_double.ensures
