use Rattle.ld_trace.proofs.Names.{◌*◌, ◌≡◌, ◌≤◌, Event, List, MAX_EVENTS, length, sum_by, take, ℕ}
use Rattle.ld_trace.proofs.raw_trace.event_count.Given as goal

-- the events of the traces so far, at most `MAX_EVENTS` each
pub record CountsEvents (events : ℕ) (traces : List (List Event)) (n : ℕ) : Type 0 where
  pub exact : events ≡ sum_by length (take n traces)
  pub few : events ≤ n * MAX_EVENTS

abbrev pub invariant-loop-trace : goal.invariant-loop-trace
invariant-loop-trace l = CountsEvents l.events l.traces l.trace-index
