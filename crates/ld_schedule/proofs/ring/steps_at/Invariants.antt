use Rattle.ld_schedule.proofs.Names.{Contains, List, Some, length, lists_of, slice_get, slice_index, ℕ, ◌<◌, ◌≡◌}
use Rattle.ld_schedule.proofs.ring.steps_at.Given as goal

abbrev pub invariant-loop-k : goal.invariant-loop-k
invariant-loop-k l = record {
  as_many : length l.steps.items ≡ l.k;
  each : (j : ℕ) (d : List ℕ) → j < l.k → slice_get (lists_of l.ring) j ≡ Some d → Contains d (slice_index l.steps.items j);
}
