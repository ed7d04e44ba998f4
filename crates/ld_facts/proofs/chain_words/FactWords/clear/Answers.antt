use Rattle.ld_facts.proofs.Names.{arith}
use Rattle.ld_facts.proofs.WordTables.{IsTable-empty, none_seen}
use Rattle.ld_facts.proofs.chain_words.FactWords.clear.Goals as goal

pub invariant_of-self : goal.invariant_of-self
invariant_of-self c = (omega arith, c.self.invariant.1, IsTable-empty _ (none_seen 65))
