use Rattle.ld_facts.proofs.Names.{◌*◌, ◌≡◌, has_bit}
use Rattle.ld_facts.specs.Inside.Bits.{count_below}
use Rattle.ld_facts.proofs.bits.count.Given as goal

abbrev pub invariant-loop-i : goal.invariant-loop-i
invariant-loop-i l = l.count ≡ count_below (has_bit l.row) (64 * l.i)
