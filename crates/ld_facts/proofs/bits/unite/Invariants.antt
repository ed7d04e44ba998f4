use Rattle.ld_facts.proofs.Names.{◌<◌, ◌≡◌, ◌≤◌, bit_or, slice_index, ℕ}
use Rattle.ld_facts.proofs.bits.unite.Given as goal

abbrev pub invariant-loop-i : goal.invariant-loop-i
invariant-loop-i l = record {
  done : (k : ℕ) → k < l.i → slice_index l.words k ≡ bit_or (slice_index l.initial.words k) (slice_index l.other k);
  rest : (k : ℕ) → l.i ≤ k → slice_index l.words k ≡ slice_index l.initial.words k;
}
