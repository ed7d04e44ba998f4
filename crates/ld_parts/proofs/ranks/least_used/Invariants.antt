use Rattle.ld_parts.proofs.Names.{slice_index}
use Rattle.ld_parts.proofs.Climbing.{IsLeast, IsUsed}
use Rattle.ld_parts.proofs.ranks.least_used.Given as goal

abbrev pub invariant-loop-key : goal.invariant-loop-key
invariant-loop-key l = IsLeast (IsUsed l.facts l.irq) (slice_index l.ranks) l.key l.least
