use Rattle.ld_explain.proofs.Names.{AreOrders, subst, sym, take-item, view_of}
use Rattle.ld_explain.proofs.ExplainingLemmas.{orders-more}
use Rattle.ld_explain.proofs.explainer.Explainer.orders.Goals as goal

pub loop-d-preserved : goal.loop-d-preserved
loop-d-preserved c =
    let view = (view_of c.args.self.now.naming c.args.self.now.traces.now) in
    subst (λ ds. AreOrders view ds c.push.new.self.items) (sym (take-item c.args.walk.now c.loop-d.d-index _ c.d-item.is c.loop-d-test.true))
    (orders-more view _ c.d-item.result _ _ c.order.result c.loop-d.invariant c.order.ensures.dependency
    c.order.ensures.origin c.in_ok-push.ensures.items)
