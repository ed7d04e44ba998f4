use Rattle.ld_explain.proofs.Names.{Explains, subst, sym, take-item, view_of}
use Rattle.ld_explain.specs.Findings.{Are}
use Rattle.ld_explain.proofs.ChoosingLemmas.{Are-more}
use Rattle.ld_explain.proofs.explainer.Explainer.findings.Goals as goal

pub loop-choice-init : goal.loop-choice-init
unfolding Are
loop-choice-init c = c.new-findings.ensures.items

pub loop-choice-preserved : goal.loop-choice-preserved
loop-choice-preserved c =
    let R = Explains (view_of c.args.self.now.naming c.args.self.now.traces.now) c.args.self.now.keys.now in
    subst (λ cs. Are R cs c.push.new.self.items) (sym (take-item c.args.choices.now c.loop-choice.choice-index _ c.choice-item.is c.loop-choice-test.true))
    (subst (Are R _) (sym c.in_ok-push.ensures.items) (Are-more R _ _ _ _ c.loop-choice.invariant c.in_ok-finding.ensures))
