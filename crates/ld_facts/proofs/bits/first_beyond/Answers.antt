use Rattle.ld_facts.proofs.Names.{arith}
use Rattle.ld_facts.proofs.BitLemmas.{beyond_first, beyond_found, beyond_none}
use Rattle.ld_facts.proofs.bits.first_beyond.Goals as goal

pub returns-then-fresh-ne0-clause-some : goal.returns-then-fresh-ne0-clause-some
returns-then-fresh-ne0-clause-some c =
    beyond_found c.args.words.now c.args.taken.now c.loop-i.i c.loop-i-test.true
    (omega (arith, c.type_inv.words c.loop-i.i)) (omega (arith, c.type_inv.taken c.loop-i.i)) c.if-fresh-ne0.true

pub returns-then-fresh-ne0-clause-first : goal.returns-then-fresh-ne0-clause-first
returns-then-fresh-ne0-clause-first c =
    beyond_first c.args.words.now c.args.taken.now c.loop-i.i (omega (arith, c.type_inv.words c.loop-i.i))
    (λ k _. omega (arith, c.type_inv.taken k)) c.loop-i.invariant c.if-fresh-ne0.true

pub returns-clause-none : goal.returns-clause-none
returns-clause-none c =
    λ _. beyond_none c.args.words.now c.args.taken.now c.loop-i.i (omega arith) (λ k h. omega (arith, c.type_inv.taken k)) c.loop-i.invariant
