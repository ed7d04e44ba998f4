use Rattle.ld_run.proofs.Names.{◌-◌, ◌≤◌}
use Rattle.ld_facts.specs.Numbers.{dependency_total}
use Rattle.ld_run.proofs.condensing.targets_of.Given as goal

abbrev pub invariant-loop-found : goal.invariant-loop-found
invariant-loop-found l = l.n ≤ dependency_total l.facts.keys

abbrev pub decreases-loop-found : goal.decreases-loop-found
decreases-loop-found l = dependency_total l.facts.keys - l.n
