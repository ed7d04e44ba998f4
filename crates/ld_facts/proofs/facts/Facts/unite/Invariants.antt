use Rattle.ld_facts.proofs.Uniting.{UnitesWords}
use Rattle.ld_facts.proofs.facts.Facts.unite.Given as goal

abbrev pub invariant-loop-i : goal.invariant-loop-i
invariant-loop-i l = UnitesWords l.initial.self l.self l.other-inside.bits l.i
