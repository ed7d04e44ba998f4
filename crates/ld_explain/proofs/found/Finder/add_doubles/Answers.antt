use Rattle.ld_explain.proofs.Names.{map}
use Rattle.ld_explain.proofs.FindingLemmas.{AddsThose-next}
use Rattle.ld_explain.proofs.found.Finder.add_doubles.Goals as goal

pub loop-irq-preserved : goal.loop-irq-preserved
loop-irq-preserved c = AddsThose-next _ (λ irq. map (λ key. (irq, key)) c.args.self.keys.now) _ _ _ _ _ _ c.loop-irq-test.true c.loop-irq.invariant c.in_ok-add_doubles_of.ensures
