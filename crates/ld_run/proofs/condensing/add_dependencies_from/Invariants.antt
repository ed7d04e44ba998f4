use Rattle.ld_run.proofs.Names.{◌-◌, ◌≤◌}
use Rattle.ld_run.proofs.condensing.add_dependencies_from.Given as goal

abbrev pub invariant-loop-to : goal.invariant-loop-to
invariant-loop-to l = l.next ≤ l.facts.keys

abbrev pub decreases-loop-to : goal.decreases-loop-to
decreases-loop-to l = l.facts.keys - l.next
