use Rattle.ld_explain.proofs.Names.{◌∙◌, sym, true≢false}
use Rattle.ld_explain.proofs.FindingLemmas.{AddsThose-off, AddsThose-on}
use Rattle.ld_explain.proofs.explainer.Explainer.add_guarded.Goals as goal

pub returns-in_ok-push : goal.returns-in_ok-push
returns-in_ok-push c =
    AddsThose-on _ _ _ _ ((c.guard.ensures.gates c.args.gate).0 (c.has_gate.ensures.0 c.if-has_gate.true)) (rw c.copy.ensures at c.in_ok-push.ensures.items)

pub returns-else-has_gate : goal.returns-else-has_gate
returns-else-has_gate c =
    AddsThose-off _ _ _ (λ is. true≢false (sym (c.has_gate.ensures.1 ((c.guard.ensures.gates c.args.gate).1 is)) ∙ c.if-has_gate.false))
