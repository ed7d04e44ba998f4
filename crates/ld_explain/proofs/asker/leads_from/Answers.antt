use Rattle.ld_explain.proofs.Names.{◌∙◌, ◌≡◌, Contains-unmap, Order, ap, arith}
use Rattle.ld_explain.proofs.Asking.{all-each}
use Rattle.ld_explain.proofs.asker.leads_from.Goals as goal

pub returns : goal.returns
returns c = λ none e has is.
    let (o, there, same) = Contains-unmap (λ (o : Order). o.dependency) c.args.walk.now e has in
    all-each (λ o. ¬ (o.dependency.start ≡ c.args.from)) c.args.walk.now c.loop-order.order-index (omega (arith, c.loop-order-test.false)) c.loop-order.invariant o there
    (ap (λ d. d.start) same ∙ is)
