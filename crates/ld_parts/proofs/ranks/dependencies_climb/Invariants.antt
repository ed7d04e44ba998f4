use Rattle.ld_parts.proofs.Names.{◌-◌, ◌<◌, ◌≤◌, IsTrue, dependency_total, has_bit, slice_index, ℕ}
use Rattle.ld_parts.proofs.Climbing.{BitClimbs}
use Rattle.ld_parts.proofs.ranks.dependencies_climb.Given as goal

abbrev pub invariant-loop-k : goal.invariant-loop-k
invariant-loop-k l = record {
  few : l.n ≤ dependency_total l.facts.keys;
  climb : (k : ℕ) → k < l.n → IsTrue (has_bit l.facts.words k) → BitClimbs l.facts (slice_index l.ranks) k;
}

abbrev pub decreases-loop-k : goal.decreases-loop-k
decreases-loop-k l = dependency_total l.facts.keys - l.n
