use Rattle.ld_text.proofs.Names.{◌++◌, ◌≡◌, flat_map, member_text, string_bytes, take}
use Rattle.ld_text.proofs.wording.Wording.add_members.Given as goal

-- the members so far
abbrev pub invariant-loop-order : goal.invariant-loop-order
invariant-loop-order l = string_bytes l.text ≡ string_bytes l.initial.text ++ flat_map (λ order. member_text l.self.names order.dependency) (take l.order-index l.walk)
