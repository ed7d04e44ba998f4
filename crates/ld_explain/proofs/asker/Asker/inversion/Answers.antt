use Rattle.ld_explain.proofs.Names.{Contains, IsLoneInversion, arith, refl, ℕ}
use Rattle.ld_explain.proofs.Asking.{all-each, all-more}
use Rattle.ld_explain.proofs.asker.Asker.inversion.Goals as goal

pub loop-lock-preserved : goal.loop-lock-preserved
loop-lock-preserved c = all-more (λ k. (other : ℕ) → Contains c.args.self.keys.now other → ¬ IsLoneInversion c.args.self c.args.irq c.args.a c.args.b k other)
    c.args.self.keys.now c.loop-lock.lock-index c.lock-item.result c.lock-item.is c.loop-lock-test.true c.loop-lock.invariant (c.in_default.ensures.none refl)

pub returns-clause-none : goal.returns-clause-none
returns-clause-none c none = all-each (λ k. (other : ℕ) → Contains c.args.self.keys.now other → ¬ IsLoneInversion c.args.self c.args.irq c.args.a c.args.b k other)
    c.args.self.keys.now c.loop-lock.lock-index (omega (arith, c.loop-lock-test.false)) c.loop-lock.invariant
