use Rattle.ld_facts.proofs.GrowingBy.{IsGrownBy}
use Rattle.ld_facts.proofs.facts.Facts.add_chain_by.Given as goal

abbrev pub invariant-loop-slot : goal.invariant-loop-slot
invariant-loop-slot l = IsGrownBy l.initial.self l.self l.chain l.others l.slot
