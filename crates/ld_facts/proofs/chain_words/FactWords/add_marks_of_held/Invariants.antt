use Rattle.ld_facts.proofs.Names.{◌*◌, Gathered}
use Rattle.ld_facts.proofs.chain_words.FactWords.add_marks_of_held.Given as goal

abbrev pub invariant-loop-i : goal.invariant-loop-i
invariant-loop-i l = Gathered l.keys l.chain l.self (l.i * 2)
