use Rattle.ld_parts.proofs.Names.{◌<◌, ◌≡◌, IsPart, Part, get_or, length, slice_index, ℕ}
use Rattle.ld_parts.proofs.part.parts_by_ranks.Given as goal

abbrev pub invariant-loop-rank : goal.invariant-loop-rank
invariant-loop-rank l = record {
  len : length l.parts.items ≡ l.rank;
  parts_are : (r : ℕ) (part : Part) → r < length l.parts.items → IsPart l.facts (slice_index l.ranks) r (get_or l.parts.items r part);
}
