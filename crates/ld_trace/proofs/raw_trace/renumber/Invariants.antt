use Rattle.ld_trace.proofs.Names.{◌<◌, ◌≡◌, ◌≤◌, Leave, event_with, get_or, ℕ}
use Rattle.ld_trace.proofs.raw_trace.renumber.Given as goal

-- the events so far have their new keys, and the others are as they were
abbrev pub invariant-loop-event : goal.invariant-loop-event
invariant-loop-event l =
    ((k : ℕ) → k < l.event-index → get_or l.events k Leave ≡ event_with l.numbers (get_or l.initial.events k Leave))
    × ((k : ℕ) → l.event-index ≤ k → get_or l.events k Leave ≡ get_or l.initial.events k Leave)
