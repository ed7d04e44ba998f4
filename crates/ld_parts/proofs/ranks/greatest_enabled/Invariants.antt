use Rattle.ld_parts.proofs.Names.{slice_index}
use Rattle.ld_parts.proofs.Climbing.{IsGreatest, IsEnabled}
use Rattle.ld_parts.proofs.ranks.greatest_enabled.Given as goal

abbrev pub invariant-loop-key : goal.invariant-loop-key
invariant-loop-key l = IsGreatest (IsEnabled l.facts l.irq) (slice_index l.ranks) l.key l.greatest
