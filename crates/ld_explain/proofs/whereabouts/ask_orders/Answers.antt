use Rattle.ld_explain.proofs.Names.{◌∙◌, FactBelow, subst, sym, take-item}
use Rattle.ld_explain.specs.Inside.Listing.{AsksMore}
use Rattle.ld_explain.proofs.Listing.{asks-more, asks-none}
use Rattle.ld_explain.proofs.whereabouts.ask_orders.Goals as goal

pub loop-order-init : goal.loop-order-init
loop-order-init c = asks-none c.args.asked.now

pub add-requires : goal.add-requires
add-requires c = subst (λ k. FactBelow k c.fact.result) (sym (c.loop-order.invariant.keys ∙ c.requires)) c.fact.ensures.below

pub loop-order-preserved : goal.loop-order-preserved
loop-order-preserved c =
    subst (AsksMore c.args.asked.now c.add.new.self) (sym (take-item c.args.orders.now c.loop-order.order-index _ c.order-item.is c.loop-order-test.true))
    (asks-more _ _ _ _ c.order-item.result c.fact.result c.fact.ensures.value c.loop-order.invariant c.add.ensures.keys c.add.ensures.adds)
