use Rattle.ld_explain.proofs.Names.{◌∙◌, IsLoneDouble, arith, sym, true≢false}
use Rattle.ld_explain.proofs.Asking.{all-each, all-more}
use Rattle.ld_explain.proofs.asker.Asker.double.Goals as goal

pub loop-lock-preserved : goal.loop-lock-preserved
loop-lock-preserved c = all-more (λ k. ¬ IsLoneDouble c.args.self c.args.irq c.args.key k) c.args.self.keys.now c.loop-lock.lock-index c.lock-item.result
    c.lock-item.is c.loop-lock-test.true c.loop-lock.invariant (λ is. true≢false (sym (c.is_double.ensures.1 is) ∙ c.if-is_double.false))

pub returns-clause-none : goal.returns-clause-none
returns-clause-none c none = all-each (λ k. ¬ IsLoneDouble c.args.self c.args.irq c.args.key k) c.args.self.keys.now c.loop-lock.lock-index
    (omega (arith, c.loop-lock-test.false)) c.loop-lock.invariant
