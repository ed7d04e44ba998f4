use Rattle.ld_explain.proofs.Names.{take}
use Rattle.ld_explain.specs.Inside.Listing.{AsksMore}
use Rattle.ld_explain.proofs.whereabouts.ask_orders.Given as goal

-- the members so far are asked about
abbrev pub invariant-loop-order : goal.invariant-loop-order
invariant-loop-order l = AsksMore l.initial.asked l.asked (take l.order-index l.orders)
