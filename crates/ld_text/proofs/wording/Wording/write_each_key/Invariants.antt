use Rattle.ld_text.proofs.Names.{Adds, key_text, map, name_at, string, take}
use Rattle.ld_text.proofs.wording.Wording.write_each_key.Given as goal

-- the keys so far
abbrev pub invariant-loop-order : goal.invariant-loop-order
invariant-loop-order l = Adds l.initial.w l.w (map (λ order. string (key_text (name_at l.self.names order.dependency.start))) (take l.order-index l.walk))
