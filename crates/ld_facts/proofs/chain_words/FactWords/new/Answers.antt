use Rattle.ld_facts.proofs.Names.{arith, refl}
use Rattle.ld_facts.proofs.WordTables.{IsTable-empty, none_seen}
use Rattle.ld_facts.proofs.chain_words.FactWords.new.Goals as goal

pub invariant_of-result : goal.invariant_of-result
invariant_of-result c = (omega arith, refl, IsTable-empty _ (none_seen 65))
