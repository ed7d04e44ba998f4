use Rattle.ld_facts.proofs.Names.{arith}
use Rattle.ld_facts.proofs.BitLemmas.{has_bit-intersection}
use Rattle.ld_facts.proofs.bits.intersect.Goals as goal

pub returns-clause-bits : goal.returns-clause-bits
returns-clause-bits c =
    has_bit-intersection c.loop-i.words c.args.words.now c.args.other.now (omega arith) (λ k l. c.loop-i.invariant.done k (omega arith))
