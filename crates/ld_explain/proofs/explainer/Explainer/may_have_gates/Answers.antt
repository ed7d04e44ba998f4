use Rattle.ld_explain.proofs.Names.{All, All-push, Arrow, Contains, IsGate, arith, subst, sym, take-item, take_all, view_of, ℕ}
use Rattle.ld_explain.proofs.explainer.Explainer.may_have_gates.Goals as goal

pub loop-d-preserved : goal.loop-d-preserved
loop-d-preserved c =
    let P = λ (d : Arrow). (gate : ℕ) → ¬ IsGate (view_of c.args.self.now.naming c.args.self.now.traces.now) d gate in
    subst (All P) (sym (take-item c.args.walk.now c.loop-d.d-index _ c.d-item.is c.loop-d-test.true))
    (All-push P _ c.d-item.result c.loop-d.invariant (λ gate is.
    let (k, l, at) = subst (λ gates. Contains gates gate) (c.has_gates.ensures.none c.if-has_gates.false) ((c.guard.ensures.gates gate).1 is) in
    absurd (omega (arith, l))))

pub returns : goal.returns
returns c none = subst (All (λ d. (gate : ℕ) → ¬ IsGate (view_of c.args.self.now.naming c.args.self.now.traces.now) d gate))
    (take_all c.loop-d.d-index c.args.walk.now (omega (arith, c.loop-d-test.false))) c.loop-d.invariant
