use Rattle.ld_schedule.proofs.Names.{WaitsFor, below, slice_index, ℕ, ◌+◌, ◌<◌}
use Rattle.ld_schedule.proofs.standing.waits_along.Given as goal

abbrev pub invariant-loop-k : goal.invariant-loop-k
invariant-loop-k l = (k : ℕ) → k + 1 < l.k → WaitsFor l.history.steps (below l.history.steps l.cut) (slice_index l.ring k) (slice_index l.ring (k + 1))
