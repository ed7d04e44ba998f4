use Rattle.ld_text.proofs.Names.{order_object}
use Rattle.ld_text.proofs.JsonLemmas.{Adds-more}
use Rattle.ld_text.proofs.wording.Wording.write_each_order.Goals as goal

pub loop-order-preserved : goal.loop-order-preserved
loop-order-preserved c = Adds-more (order_object c.args.self.now) c.args.walk.now c.loop-order.order-index c.order-item.result _ _ _
    c.order-item.is c.loop-order-test.true c.loop-order.invariant c.in_ok-write_order.ensures
