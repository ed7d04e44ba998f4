use Rattle.ld_facts.proofs.Names.{arith}
use Rattle.ld_facts.proofs.BitLemmas.{has_bit-difference}
use Rattle.ld_facts.proofs.bits.remove.Goals as goal

pub returns-clause-bits : goal.returns-clause-bits
returns-clause-bits c =
    has_bit-difference c.loop-i.words c.args.words.now c.args.other.now (omega arith) (λ k. omega (arith, c.type_inv.other k)) (λ k l. c.loop-i.invariant.done k (omega arith))
