use Rattle.ld_graph.proofs.Names.{◌<◌, ◌↔◌, ◌∙◌, ◌≡◌, DependenciesOf, GRAPH_KEYS, HasFact, IsInversionBy, IsTrue, Leads, Way, ap, arith, has_bit, place, reaches, subst, sym, true, ℕ}
use Rattle.ld_graph.proofs.GraphSteps.{facts_within}
use Rattle.ld_graph.proofs.LookUps.{IsInversionBy-row}
use Rattle.ld_graph.proofs.graph.Graph.is_inversion_by.Goals as goal

pub returns : goal.returns
returns c =
    let lb : c.args.b < GRAPH_KEYS = (let k = c.if-b-keys.false in let few = c.keys.ensures.few in omega arith) in
    let exact : (q : ℕ) → (has_bit c.from-reached.result q ≡ true) ↔ Way (Leads (DependenciesOf (HasFact c.self.inside.facts))) (place c.args.a c.args.read) q =
    (λ q. let row : has_bit c.from-reached.result q ≡ reaches c.self.inside.reach (place c.args.a c.args.read) q =
    c.from-reached.ensures q ∙ ap (λ p. reaches c.self.inside.reach p q) c.place_of.ensures.value in (
      (λ h. (c.self.invariant.ways (place c.args.a c.args.read) q).0 (sym row ∙ h)),
      (λ w. row ∙ (c.self.invariant.ways (place c.args.a c.args.read) q).1 w),
    )) in
    subst (λ v. IsTrue c.some_may_follow.result ↔ IsInversionBy (HasFact v.facts) c.args.irq c.args.a c.args.b c.args.read) c.self.view_is
    (rw c.some_may_follow.ensures
    (IsInversionBy-row (HasFact c.self.inside.facts) (facts_within c.self.inside.facts c.self.invariant.few) c.args.irq c.from-reached.result c.args.a c.args.b c.args.read
    lb (c.has_mark.ensures.0 c.if-not-has_mark.false) exact
    c.has-by_n.result c.has-by_r.result c.has_mark-enabled.result c.has_mark-enabled_read.result
    (c.has-by_n.ensures ∙ ap (has_bit c.from-reached.result) c.place_of-2.ensures.value)
    (c.has-by_r.ensures ∙ ap (has_bit c.from-reached.result) c.place_of-3.ensures.value)
    c.has_mark-enabled.ensures c.has_mark-enabled_read.ensures))
