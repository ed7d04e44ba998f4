use Rattle.ld_explain.proofs.Names.{◌∙◌, GuardParts, HasGuard, IfSome, ap, eqb, lookup, subst}
use Rattle.ld_explain.proofs.Kept.{found_guard}
use Rattle.ld_explain.proofs.guards.Guards.guard_of.Goals as goal

pub returns-clause-some : goal.returns-clause-some
returns-clause-some c =
    let parts : GuardParts = record { keys = c.self.inside.keys; entries = c.self.inside.guards.entries } in
    subst (λ p. IfSome c.get.result (λ g. HasGuard p c.args.fact g.now)) c.self.view_is
    (found_guard parts c.args.fact (c.is_below.ensures.0 c.if-not-is_below.false) c.get.result
    (c.get.ensures.value ∙ ap (λ n. lookup (λ k. eqb n k) parts.entries) c.number.ensures.value))
