use Rattle.ld_trace.proofs.Names.{◌≡◌, ◌≤◌, MAX_EVENTS, length}
use Rattle.ld_trace.specs.Inside.KnownLines.{Advances, left_of}
use Rattle.ld_trace.proofs.by_lines.take_blocks.Given as goal

abbrev pub invariant-loop : goal.invariant-loop
invariant-loop g l = (length l.events.items ≤ MAX_EVENTS) × (l.keys.room ≡ l.fn.keys.room) × (1 ≤ l.size) × (l.size ≤ 65536)
    × Advances l.version l.fn.keys.room l.fn.keys.names l.keys.names l.fn.events.items l.events.items
    (left_of l.fn.block.items (g.R.Read.remaining l.fn.source)) (left_of l.block.items (g.R.Read.remaining l.source))
