use Rattle.ld_trace.proofs.Names.{◌≤◌, MAX_EVENTS, length, take}
use Rattle.ld_trace.specs.Inside.KnownLines.{TakesKnown}
use Rattle.ld_trace.proofs.known_lines.Lines.take.Given as goal

-- the lines before this place were taken
abbrev pub invariant-loop : goal.invariant-loop
invariant-loop l = (l.at ≤ length l.bytes) × (length l.events.items ≤ MAX_EVENTS)
    × TakesKnown l.version l.self.known.items l.fn.seen l.seen l.fn.events.items l.events.items (take l.at l.bytes)
