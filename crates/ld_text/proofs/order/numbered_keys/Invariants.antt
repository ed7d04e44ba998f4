use Rattle.ld_text.proofs.Names.{◌≡◌, numbers_below}
use Rattle.ld_text.proofs.order.numbered_keys.Given as goal

-- the numbers so far
abbrev pub invariant-loop-number : goal.invariant-loop-number
invariant-loop-number l = l.all.items ≡ numbers_below l.number
