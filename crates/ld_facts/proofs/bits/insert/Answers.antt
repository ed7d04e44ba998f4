use Rattle.ld_facts.proofs.BitLemmas.{has_bit-insert_same, has_bit-insert_other}
use Rattle.ld_facts.proofs.bits.insert.Goals as goal

pub returns-clause-set : goal.returns-clause-set
returns-clause-set c = has_bit-insert_same c.args.words.now c.args.n c.requires

pub returns-clause-others : goal.returns-clause-others
returns-clause-others c = λ k ne. has_bit-insert_other c.args.words.now c.args.n k c.requires ne
