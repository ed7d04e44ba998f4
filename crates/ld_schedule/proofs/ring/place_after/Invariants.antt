use Rattle.ld_schedule.proofs.Names.{length, slice_index, ℕ, ◌-◌, ◌<◌, ◌≤◌}
use Rattle.ld_schedule.proofs.ring.place_after.Given as goal

abbrev pub invariant-loop-low : goal.invariant-loop-low
invariant-loop-low l = record {
  ordered : l.low ≤ l.high;
  within : l.high ≤ length l.list;
  lower : (k : ℕ) → k < l.low → slice_index l.list k < l.before;
  upper : (k : ℕ) → l.high ≤ k → k < length l.list → l.before ≤ slice_index l.list k;
}

abbrev pub decreases-loop-low : goal.decreases-loop-low
decreases-loop-low l = l.high - l.low
