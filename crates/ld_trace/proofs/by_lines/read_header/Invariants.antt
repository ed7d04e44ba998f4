use Rattle.std.specs.Io.KnownBytes.{Consumes}
use Rattle.ld_trace.proofs.by_lines.read_header.Given as goal

-- the block has what was read
abbrev pub invariant-loop : goal.invariant-loop
invariant-loop g l = Consumes (g.R.Read.remaining l.fn.source) (g.R.Read.remaining l.source) l.block.items
