use Rattle.ld_text.proofs.Names.{Adds, flat_map, order_object, take}
use Rattle.ld_text.proofs.wording.Wording.write_each_order.Given as goal

-- the members so far
abbrev pub invariant-loop-order : goal.invariant-loop-order
invariant-loop-order l = Adds l.initial.w l.w (flat_map (order_object l.self) (take l.order-index l.walk))
