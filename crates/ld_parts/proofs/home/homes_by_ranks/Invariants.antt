use Rattle.ld_parts.proofs.Names.{AreHomes, slice_index}
use Rattle.ld_parts.proofs.home.homes_by_ranks.Given as goal

abbrev pub invariant-loop-key : goal.invariant-loop-key
invariant-loop-key l = AreHomes l.key (slice_index l.ranks) l.parts l.homes.items
