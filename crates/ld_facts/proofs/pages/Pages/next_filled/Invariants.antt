use Rattle.ld_facts.proofs.Names.{◌*◌, ◌-◌, ◌<◌, ◌≤◌, IsFalse, has_bit, ℕ}
use Rattle.ld_facts.proofs.pages.Pages.next_filled.Given as goal

abbrev pub invariant-loop-at : goal.invariant-loop-at
invariant-loop-at l = record {
  onwards : l.first ≤ l.at;
  none : (k : ℕ) → 64 * l.first ≤ k → k < 64 * l.at → IsFalse (has_bit l.self k);
}

abbrev pub decreases-loop-at : goal.decreases-loop-at
decreases-loop-at l = l.end - l.at
