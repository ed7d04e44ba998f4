use Rattle.ld_explain.proofs.Names.{FactBelow, IsPlan, subst, sym, take-item}
use Rattle.ld_explain.proofs.Seeing.{plan-more, plan-none, seen-are}
use Rattle.ld_explain.proofs.plan.Plan.of.Goals as goal

pub loop-finding-init : goal.loop-finding-init
loop-finding-init c = plan-none c.args.questions.now.levels c.args.keys c.args.questions.now.keys.now _ c.in_ok-new.ensures.keys c.in_ok-new.ensures.none
    c.new-2.ensures.items

pub add-requires : goal.add-requires
add-requires c x part = subst (λ k. FactBelow k x) (sym c.loop-finding.invariant.keys_are) (c.requires.below x
    (seen-are c.args.questions.now.levels c.args.questions.now.keys.now c.finding-item.result c.in_ok-seen.field-0 c.in_ok-seen.ensures x part))

pub loop-finding-preserved : goal.loop-finding-preserved
loop-finding-preserved c =
    let q = c.args.questions.now in
    subst (λ fs. IsPlan q.levels c.args.keys q.keys.now fs c.add.new.self)
    (sym (take-item c.args.findings.now c.loop-finding.finding-index _ c.finding-item.is c.loop-finding-test.true))
    (plan-more q.levels c.args.keys q.keys.now _ c.finding-item.result c.in_ok-seen.field-0 c.loop-finding.plan c.add.new.self c.loop-finding.invariant
    c.in_ok-seen.ensures c.in_ok-add.ensures)
