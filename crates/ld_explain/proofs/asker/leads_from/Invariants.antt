use Rattle.ld_explain.proofs.Names.{◌≡◌, All, take}
use Rattle.ld_explain.proofs.asker.leads_from.Given as goal

-- no member so far leads from the key
abbrev pub invariant-loop-order : goal.invariant-loop-order
invariant-loop-order l = All (λ o. ¬ (o.dependency.start ≡ l.from)) (take l.order-index l.walk)
