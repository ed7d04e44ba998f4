use Rattle.ld_run.proofs.Names.{◌≡◌, FactParts, HasThere, Holds, IsSumming, in_facts}
use Rattle.ld_run.proofs.trace_facts.add_rest.Given as goal

-- the events so far were allowed, and the facts of their chains were added
abbrev pub invariant-loop-place : goal.invariant-loop-place
invariant-loop-place l =
    (l.facts.keys ≡ l.fn.facts.keys)
    × Holds (HasThere (in_facts l.others l.facts)) (HasThere (in_facts l.others l.fn.facts))
    × ((start : FactParts) × IsSumming l.others start l.facts l.trace l.place l.state)
    × ((start : FactParts) → IsSumming l.others start l.fn.facts l.trace l.fn.walk.place l.fn.walk.state → IsSumming l.others start l.facts l.trace l.place l.state)
