use Rattle.ld_facts.proofs.Names.{arith}
use Rattle.ld_facts.proofs.Meeting.{meet_found, meet_none}
use Rattle.ld_facts.proofs.bits.meet.Goals as goal

pub returns-then-row-i-ne0-clause-some : goal.returns-then-row-i-ne0-clause-some
returns-then-row-i-ne0-clause-some c = λ t.
    meet_found c.args.row.now c.args.other.now c.loop-i.i (omega (arith, c.type_inv.row c.loop-i.i)) c.if-row-i-ne0.true

pub returns-clause-none : goal.returns-clause-none
returns-clause-none c = λ t.
    meet_none c.args.row.now c.args.other.now c.loop-i.i (c.loop-i-test.false) c.loop-i.invariant
