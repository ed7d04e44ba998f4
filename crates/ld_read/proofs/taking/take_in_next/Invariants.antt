use Rattle.ld_read.proofs.Names.{◌≡◌}
use Rattle.ld_read.proofs.taking.take_in_next.Given as goal

-- nothing was changed yet
abbrev pub invariant-loop-ahead : goal.invariant-loop-ahead
invariant-loop-ahead l = (l.aheads ≡ l.fn.aheads) × (l.keys ≡ l.fn.keys) × (l.traces ≡ l.fn.traces)
