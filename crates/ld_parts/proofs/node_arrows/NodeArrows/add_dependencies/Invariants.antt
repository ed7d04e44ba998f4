use Rattle.ld_parts.proofs.Names.{◌-◌, ◌≤◌, dependency_total}
use Rattle.ld_parts.proofs.node_arrows.NodeArrows.add_dependencies.Given as goal

abbrev pub invariant-loop-number : goal.invariant-loop-number
invariant-loop-number l = l.n ≤ dependency_total l.facts.keys

abbrev pub decreases-loop-number : goal.decreases-loop-number
decreases-loop-number l = dependency_total l.facts.keys - l.n
