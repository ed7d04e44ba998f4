use Rattle.ld_trace.proofs.Names.{◌++◌, ◌+◌, ◌-◌, ◌≡◌, ◌≤◌, List, MAX_EVENTS, Name, ReadsPlain, Record, Returns, TakesOn, length}
use Rattle.ld_trace.proofs.reading.take_events.Given as goal

abbrev pub invariant-records : goal.invariant-records
invariant-records g l = ReadsPlain l.source × (length l.events.items ≤ MAX_EVENTS)
    × ((more : List Record) × Returns g.R.Read.remaining l.fn.source l.source more
    × TakesOn l.fn.keys.room l.version l.fn.keys.names l.keys.names l.fn.events.items l.events.items more)
    × ((added : List Name) × (l.keys.names ≡ l.fn.keys.names ++ added))
    × (l.keys.room ≡ l.fn.keys.room)

abbrev pub decreases-records : goal.decreases-records
decreases-records g l = MAX_EVENTS + 1 - length l.events.items
