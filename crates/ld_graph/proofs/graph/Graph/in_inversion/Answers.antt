use Rattle.ld_graph.proofs.Names.{◌↔◌, ◌≡◌, AreSpan, Arrow, DependenciesOf, HasFact, InInversion, IsSource, IsTarget, IsTrue, arrow, false, has_bit, subst, true, ℕ}
use Rattle.ld_graph.proofs.GraphSteps.{JoinsLinks-iff, facts_within}
use Rattle.ld_graph.proofs.Inversions.{InInversion-iff, InInversion-member}
use Rattle.ld_graph.proofs.graph.Graph.in_inversion.Goals as goal

pub returns-else-has_dep : goal.returns-else-has_dep
returns-else-has_dep c =
    subst (λ v. IsTrue false ↔ InInversion (HasFact v.facts) (arrow c.args.from c.args.to c.args.kind)) c.self.view_is (
      (λ h. absurd (let f : false ≡ true = h in cc)),
      (λ member. absurd (let t : c.has_dep.result ≡ true = c.has_dep.ensures.1
          (InInversion-member (HasFact c.self.inside.facts) (arrow c.args.from c.args.to c.args.kind) member) in let f = c.if-has_dep.false in cc)),
    )

pub returns-then-has_dep : goal.returns-then-has_dep
returns-then-has_dep c =
    let d : Arrow = arrow c.args.from c.args.to c.args.kind in
    let has : DependenciesOf (HasFact c.self.inside.facts) d = c.has_dep.ensures.0 c.if-has_dep.true in
    let span : AreSpan c.self.inside.reach d c.sources-sources.result c.targets-targets.result = record {
      sources_are =
          subst (λ s. (p : ℕ) → (has_bit c.sources-sources.result p ≡ true) ↔ IsSource c.self.inside.reach c.args.from s p)
          c.begins_with_s.ensures c.sources-sources.ensures;
      targets_are =
          subst (λ r. (q : ℕ) → (has_bit c.targets-targets.result q ≡ true) ↔ IsTarget c.self.inside.reach c.args.to r q)
          c.ends_in_r.ensures c.targets-targets.ensures;
    } in
    let links = JoinsLinks-iff c.self.inside.facts c.self.inside.reach c.self.inside.ends c.self.invariant.ways
    c.self.invariant.ends_are d c.sources-sources.result c.targets-targets.result span in
    let iff = InInversion-iff (HasFact c.self.inside.facts) (facts_within c.self.inside.facts c.self.invariant.few) d has in
    subst (λ v. IsTrue c.are_joined.result ↔ InInversion (HasFact v.facts) d) c.self.view_is
    ((λ h. iff.1 (links.0 (c.are_joined.ensures.0 h))), (λ member. c.are_joined.ensures.1 (links.1 (iff.0 member))))
