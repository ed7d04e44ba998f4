use Rattle.ld_explain.proofs.Names.{◌∙◌, FactBelow, GuardParts, IsGuardWith, PutsGuard, Some, ap, cond, eqb, lookup, subst, sym}
use Rattle.ld_explain.proofs.Kept.{puts-guard}
use Rattle.ld_explain.proofs.guards.Guards.put.Goals as goal
use Rattle.ld_explain.proofs.guards.Guards.put.Goals.{in-Err, in-Ok}

pub returns : goal.returns
returns c = elim c.match-insert.branch [
  | in-Ok w ↦
      let old = c.self.inside.guards.entries in
      let new = c.insert.new.self.entries in
      let keys = c.self.inside.keys in
      let guard = c.guard_with-guard.result in
      let below = subst (λ (v : GuardParts). FactBelow v.keys c.args.fact) (sym c.self.view_is) c.requires in
      let with_it = subst (λ v. IsGuardWith v c.args.fact c.args.trace c.args.gates.items guard) (sym c.self.view_is) c.guard_with-guard.ensures in
      rw w.result-is
      (subst (λ v. PutsGuard v (record { keys = keys; entries = new }) c.args.fact c.args.trace c.args.gates.items) c.self.view_is
      (puts-guard c.facts_are_bits.ensures.different keys old new c.args.fact guard below
      (λ q. w.in-Ok.ensures.updates.0 q ∙ ap (λ n. cond (eqb n q) (Some guard) (lookup (λ k. eqb q k) old)) c.number-number.ensures.value)
      c.args.trace c.args.gates.items with_it))
  | in-Err w ↦ rw w.result-is tt
]
