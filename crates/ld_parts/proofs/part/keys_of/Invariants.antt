use Rattle.ld_parts.proofs.Names.{AreKeysOf, slice_index}
use Rattle.ld_parts.proofs.part.keys_of.Given as goal

abbrev pub invariant-loop-key : goal.invariant-loop-key
invariant-loop-key l = AreKeysOf l.key (slice_index l.ranks) l.rank l.keys.items
