use Rattle.ld_explain.proofs.Names.{IsLoneMember, arith, kinds}
use Rattle.ld_explain.proofs.Asking.{all-each, all-next, kind-there}
use Rattle.ld_explain.proofs.asker.Asker.member_between.Goals as goal

pub loop-kind-preserved : goal.loop-kind-preserved
loop-kind-preserved c = all-next (λ kind. ¬ IsLoneMember c.args.self c.args.walk.now c.args.from c.args.to kind) kinds c.loop-kind.kind-index _
    c.loop-kind-test.true c.loop-kind.invariant (λ is. let one = c.if-is_member.ensures.1 is in cc)

pub returns-clause-none : goal.returns-clause-none
returns-clause-none c none kind = all-each (λ kind. ¬ IsLoneMember c.args.self c.args.walk.now c.args.from c.args.to kind) kinds c.loop-kind.kind-index
    (omega (arith, c.loop-kind-test.false)) c.loop-kind.invariant kind (kind-there kind)
