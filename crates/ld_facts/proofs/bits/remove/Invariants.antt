use Rattle.ld_facts.proofs.Names.{◌<◌, ◌≡◌, ◌≤◌, bit_and, bit_not, slice_index, w64, ℕ}
use Rattle.ld_facts.proofs.bits.remove.Given as goal

abbrev pub invariant-loop-i : goal.invariant-loop-i
invariant-loop-i l = record {
  done : (k : ℕ) → k < l.i → slice_index l.words k ≡ bit_and (slice_index l.initial.words k) (bit_not w64 (slice_index l.other k));
  rest : (k : ℕ) → l.i ≤ k → slice_index l.words k ≡ slice_index l.initial.words k;
}
