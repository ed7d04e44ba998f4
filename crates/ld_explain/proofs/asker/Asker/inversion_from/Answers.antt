use Rattle.ld_explain.proofs.Names.{◌∙◌, IsLoneInversion, arith, sym, true≢false}
use Rattle.ld_explain.proofs.Asking.{all-each, all-more}
use Rattle.ld_explain.proofs.asker.Asker.inversion_from.Goals as goal

pub loop-other-preserved : goal.loop-other-preserved
loop-other-preserved c = all-more (λ other. ¬ IsLoneInversion c.args.self c.args.irq c.args.a c.args.b c.args.lock other) c.args.self.keys.now
    c.loop-other.other-index c.other-item.result c.other-item.is c.loop-other-test.true c.loop-other.invariant
    (λ is. true≢false (sym (c.is_inversion.ensures.1 is) ∙ c.if-is_inversion.false))

pub returns-clause-none : goal.returns-clause-none
returns-clause-none c none = all-each (λ other. ¬ IsLoneInversion c.args.self c.args.irq c.args.a c.args.b c.args.lock other) c.args.self.keys.now
    c.loop-other.other-index (omega (arith, c.loop-other-test.false)) c.loop-other.invariant
