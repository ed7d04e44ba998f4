use Rattle.ld_facts.proofs.Names.{arith}
use Rattle.ld_facts.proofs.BitLemmas.{has_bit-union}
use Rattle.ld_facts.proofs.bits.unite.Goals as goal

pub returns-clause-bits : goal.returns-clause-bits
returns-clause-bits c =
    has_bit-union c.loop-i.words c.args.words.now c.args.other.now (omega arith) (omega arith)
    (λ k l. c.loop-i.invariant.done k (omega arith))
