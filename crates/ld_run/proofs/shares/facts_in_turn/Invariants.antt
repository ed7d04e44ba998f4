use Rattle.ld_run.proofs.Names.{AreKnown, AreWalked, in_facts, take}
use Rattle.ld_run.proofs.shares.facts_in_turn.Given as goal

-- the traces so far are well formed, and these are their facts, by which the steps are known
abbrev pub invariant-loop-trace : goal.invariant-loop-trace
invariant-loop-trace l = AreWalked l.others l.keys (take l.trace l.traces) l.facts × AreKnown (in_facts l.others l.facts) l.known
