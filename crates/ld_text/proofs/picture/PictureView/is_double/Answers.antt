use Rattle.ld_text.proofs.Names.{HasFact, IsDouble, states}
use Rattle.ld_text.proofs.PictureGrowing.{none-more}
use Rattle.ld_text.proofs.picture.PictureView.is_double.Goals as goal

pub loop-irq-preserved : goal.loop-irq-preserved
loop-irq-preserved c = none-more (λ irq. IsDouble (HasFact c.args.self.settled.now) irq c.args.key)
    states c.loop-irq.irq-index _ c.loop-irq-test.true c.loop-irq.invariant
    (λ holds. let shown = c.if-is_double.ensures.1 (rw c.get.ensures.value holds) in cc)
