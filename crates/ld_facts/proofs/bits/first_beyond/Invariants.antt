use Rattle.ld_facts.proofs.Names.{◌<◌, ◌≡◌, bit_and, bit_not, slice_index, w64, ℕ}
use Rattle.ld_facts.proofs.bits.first_beyond.Given as goal

abbrev pub invariant-loop-i : goal.invariant-loop-i
invariant-loop-i l = (k : ℕ) → k < l.i → bit_and (slice_index l.words k) (bit_not w64 (slice_index l.taken k)) ≡ 0
