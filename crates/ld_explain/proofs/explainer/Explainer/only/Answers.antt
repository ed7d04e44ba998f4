use Rattle.ld_explain.proofs.Names.{◌∙◌, IsAloneIn, arith, none-some, subst, sym, take, take-item, take_all, true≢false, view_of}
use Rattle.ld_explain.proofs.ExplainingLemmas.{alone-member, alone-more}
use Rattle.ld_explain.proofs.explainer.Explainer.only.Goals as goal

pub returns-then-not-is_same : goal.returns-then-not-is_same
returns-then-not-is_same c trace = (
  λ e. absurd (none-some trace e),
  λ alone.
      let view = (view_of c.args.self.now.naming c.args.self.now.traces.now) in
      let walk = c.args.walk.now in
      let one = (c.guard.ensures.only trace).1 (alone-member view trace walk c.index-walk-0.result (0, c.requires.some, sym c.index-walk-0.is) alone) in
      let other = (c.guard-in-loop-d.ensures.only trace).1 (alone-member view trace walk c.d-item.result (c.loop-d.d-index, c.loop-d-test.true, sym c.d-item.is) alone) in
      absurd (true≢false (sym (c.is_same.ensures.1 (other ∙ sym one)) ∙ c.if-not-is_same.true)),
)

pub loop-d-preserved : goal.loop-d-preserved
loop-d-preserved c trace is =
    let view = (view_of c.args.self.now.naming c.args.self.now.traces.now) in
    subst (λ ds. IsAloneIn view ds trace) (sym (take-item c.args.walk.now c.loop-d.d-index _ c.d-item.is c.loop-d-test.true))
    (alone-more view trace (take c.loop-d.d-index c.args.walk.now) c.d-item.result (c.loop-d.invariant trace is) ((c.guard-in-loop-d.ensures.only trace).0 (c.is_same.ensures.0 c.if-not-is_same.false ∙ is)))

pub returns : goal.returns
returns c trace = (
  λ is. subst (λ ds. IsAloneIn (view_of c.args.self.now.naming c.args.self.now.traces.now) ds trace) (take_all c.loop-d.d-index c.args.walk.now (omega (arith, c.loop-d-test.false))) (c.loop-d.invariant trace is),
  λ alone. (c.guard.ensures.only trace).1
      (alone-member (view_of c.args.self.now.naming c.args.self.now.traces.now) trace c.args.walk.now c.index-walk-0.result (0, c.requires.some, sym c.index-walk-0.is) alone),
)
