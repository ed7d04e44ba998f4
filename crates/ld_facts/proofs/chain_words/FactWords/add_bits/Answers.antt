use Rattle.ld_facts.proofs.WordTables.{UnitesPair-none}
use Rattle.ld_facts.proofs.chain_words.FactWords.add_bits.Goals as goal

pub returns-then-bits-eq0-clause-bits : goal.returns-then-bits-eq0-clause-bits
returns-then-bits-eq0-clause-bits c = UnitesPair-none c.args.self.now c.args.word c.args.bits c.if-bits-eq0.true
