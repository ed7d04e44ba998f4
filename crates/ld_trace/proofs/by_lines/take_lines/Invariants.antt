use Rattle.ld_trace.proofs.Names.{◌≡◌, ◌≤◌, MAX_EVENTS, length, take}
use Rattle.ld_trace.specs.Inside.KnownLines.{ReadsOn}
use Rattle.ld_trace.proofs.by_lines.take_lines.Given as goal

-- the lines before this place were taken, over the names that were seen
abbrev pub invariant-loop : goal.invariant-loop
invariant-loop l = (l.at ≤ length l.bytes) × (length l.events.items ≤ MAX_EVENTS) × (l.seen ≤ length l.keys.names) × (l.keys.room ≡ l.fn.keys.room)
    × ReadsOn l.version l.fn.keys.room l.fn.keys.names (take l.seen l.keys.names) l.fn.events.items l.events.items (take l.at l.bytes)
