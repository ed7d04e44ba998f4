use Rattle.ld_explain.proofs.Names.{◌≡◌, Contains-unmap, Order, arith, arrow, sym, true≢false}
use Rattle.ld_explain.proofs.Asking.{all-each}
use Rattle.ld_explain.proofs.asker.has_member.Goals as goal

pub returns : goal.returns
returns c = (
  (λ f. absurd (true≢false (sym f))),
  (λ has.
      let d = arrow c.args.from c.args.to c.args.kind in
      let (o, there, is) = Contains-unmap (λ (o : Order). o.dependency) c.args.walk.now d has in
      absurd (all-each (λ o. ¬ (o.dependency ≡ d)) c.args.walk.now c.loop-order.order-index (omega (arith, c.loop-order-test.false)) c.loop-order.invariant o there is)),
)
