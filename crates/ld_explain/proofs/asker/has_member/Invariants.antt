use Rattle.ld_explain.proofs.Names.{◌≡◌, All, arrow, take}
use Rattle.ld_explain.proofs.asker.has_member.Given as goal

-- no member so far is the dependency
abbrev pub invariant-loop-order : goal.invariant-loop-order
invariant-loop-order l = All (λ o. ¬ (o.dependency ≡ arrow l.from l.to l.kind)) (take l.order-index l.walk)
