use Rattle.ld_text.proofs.ChainLemmas.{PutsLines}
use Rattle.ld_text.proofs.chains_text.write_chains.Given as goal

-- the lines of the events so far
abbrev pub invariant-loop-place : goal.invariant-loop-place
invariant-loop-place g l = PutsLines (g.W.Write.contents l.initial.w) (g.W.Write.contents l.w) l.page.bytes l.names.names l.trace l.place l.state
