use Rattle.ld_book.proofs.Names.{◌++◌, ◌∙◌, ◌∷◌, ◌≡◌, ap, arith, chain_eq, drain_items, length, subst, sym}
use Rattle.std.specs.List.{IsDistinct}
use Rattle.ld_book.proofs.ChainsLemmas.{inserted-next}
use Rattle.ld_book.proofs.chains.move_to_end.Goals as goal

pub loop-chain-preserved : goal.loop-chain-preserved
loop-chain-preserved c =
    let (can, finite, whole, distinct, room) = c.loop-chain.invariant in
    let first : drain_items c.loop-chain.chain-iterator ≡ c.in-Some.chain ∷ drain_items c.next.new.self = c.in-Some.ensures.steps.0 in
    let before = ap (λ rest. c.loop-chain.indexed.keys ++ rest) first in
    let moved = inserted-next c.loop-chain.indexed.keys (drain_items c.next.new.self) c.insert.new.self.keys c.in-Some.chain
    (subst (IsDistinct chain_eq) before distinct) c.in-Ok.ensures.keys in
    let spare = c.insert.ensures.spare in (
      tt,
      tt,
      moved ∙ sym before ∙ whole,
      subst (IsDistinct chain_eq) (before ∙ sym moved) distinct,
      omega (arith, room, spare, ap length first),
    )
