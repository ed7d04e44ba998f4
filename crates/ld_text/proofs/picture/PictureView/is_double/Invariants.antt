use Rattle.ld_text.proofs.Names.{Any, HasFact, IsDouble, take}
use Rattle.ld_text.proofs.picture.PictureView.is_double.Given as goal

-- none of the states so far
abbrev pub invariant-loop-irq : goal.invariant-loop-irq
invariant-loop-irq l = ¬ Any (λ irq. IsDouble (HasFact l.self.settled.now) irq l.key) (take l.irq-index l.irq-items)
