use Rattle.ld_facts.proofs.Uniting.{UnitesBits}
use Rattle.ld_facts.proofs.facts.Facts.unite_word.Given as goal

abbrev pub invariant-loop-k : goal.invariant-loop-k
invariant-loop-k l = UnitesBits l.initial.self l.self l.n l.bits l.k
