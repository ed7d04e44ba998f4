use Rattle.ld_facts.proofs.Names.{◌+◌, ◌<◌, ◌^◌, IsRunOf, length}
use Rattle.ld_facts.proofs.chain_words.FactWords.add_marks_of_new.Given as goal

abbrev pub invariant-loop-n : goal.invariant-loop-n
invariant-loop-n l = record {
  short : l.run < 2 ^ 9;
  run : IsRunOf l.chain l.key (length l.chain.held_locks) (length l.chain.held_locks + l.n) l.run;
}
