use Rattle.ld_trace.proofs.Advancing.{consumes-nothing, consumes-on}
use Rattle.ld_trace.proofs.by_lines.read_header.Goals as goal

pub loop-init : goal.loop-init
loop-init g c = rw c.requires (consumes-nothing (g.R.Read.remaining c.args.source.now))

pub returns-in_err-fill-clause-none : goal.returns-in_err-fill-clause-none
returns-in_err-fill-clause-none g c = λ none. consumes-on _ _ _ _ _ c.loop.invariant c.in_err-fill.ensures.more

pub loop-preserved : goal.loop-preserved
loop-preserved g c = consumes-on _ _ _ _ _ c.loop.invariant c.fill.ensures.more
