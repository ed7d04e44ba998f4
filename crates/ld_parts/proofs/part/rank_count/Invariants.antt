use Rattle.ld_parts.proofs.Names.{◌<◌, ◌≤◌, slice_index, ℕ}
use Rattle.ld_parts.proofs.part.rank_count.Given as goal

abbrev pub invariant-loop-key : goal.invariant-loop-key
invariant-loop-key l = record {
  all : (k : ℕ) → k < l.key → slice_index l.ranks k < l.count;
  few : l.count ≤ 65_536;
}
