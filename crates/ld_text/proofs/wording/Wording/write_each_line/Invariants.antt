use Rattle.ld_text.proofs.Names.{Adds, circle_words, map, string, take}
use Rattle.ld_text.proofs.wording.Wording.write_each_line.Given as goal

-- the lines so far
abbrev pub invariant-loop-order : goal.invariant-loop-order
invariant-loop-order l = Adds l.initial.w l.w (map (λ order. string (circle_words l.self.names order.dependency)) (take l.order-index l.walk))
