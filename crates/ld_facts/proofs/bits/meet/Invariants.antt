use Rattle.ld_facts.proofs.Names.{◌<◌, ◌≡◌, bit_and, slice_index, ℕ}
use Rattle.ld_facts.proofs.bits.meet.Given as goal

abbrev pub invariant-loop-i : goal.invariant-loop-i
invariant-loop-i l = (k : ℕ) → k < l.i → bit_and (slice_index l.row k) (slice_index l.other k) ≡ 0
