use Rattle.ld_facts.proofs.Names.{Grown}
use Rattle.ld_facts.proofs.facts.Facts.add_chain.Given as goal

abbrev pub invariant-loop-n : goal.invariant-loop-n
invariant-loop-n l = Grown l.initial.self l.self l.chain l.n l.fresh
