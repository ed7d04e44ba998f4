use Rattle.ld_run.proofs.Names.{◌-◌, ◌≡◌, ◌≤◌, AreKnown, IfSome, IsSumming, Some, in_facts, length, slice_get}
use Rattle.ld_run.proofs.trace_facts.add_trace.Given as goal

-- the facts of the chains so far were added, what is known of steps is known, and the state has the number, if there is one
abbrev pub invariant-loop-here : goal.invariant-loop-here
invariant-loop-here l =
    (l.walk.place ≤ length l.trace) × (l.walk.number ≤ l.walk.place)
    × AreKnown (in_facts l.others l.facts) l.known
    × IfSome l.here (λ n. slice_get l.known.states.items n ≡ Some l.walk.state)
    × IsSumming l.others l.fn.facts l.facts l.trace l.walk.place l.walk.state

abbrev pub decreases-loop-here : goal.decreases-loop-here
decreases-loop-here l = length l.trace - l.walk.place
