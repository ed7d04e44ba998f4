use Rattle.ld_text.proofs.Names.{◌++◌, ◌≡◌, flat_map, order_line, string_bytes, take}
use Rattle.ld_text.proofs.wording.Wording.add_orders.Given as goal

-- the lines of the members so far
abbrev pub invariant-loop-order : goal.invariant-loop-order
invariant-loop-order l = string_bytes l.text ≡ string_bytes l.initial.text ++ flat_map (order_line l.self) (take l.order-index l.walk)
