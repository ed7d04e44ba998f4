use Rattle.ld_run.proofs.Names.{◌≡◌, AreSame, HasFact, refl, subst, sym}
use Rattle.ld_run.proofs.Settlements.{settles-same}
use Rattle.ld_run.proofs.settling.settle.Goals as goal

pub returns-then-same-clause-exact : goal.returns-then-same-clause-exact
returns-then-same-clause-exact c =
    let e = c.into_graph-graph.ensures in
    let law = settles-same c.args.book c.into_graph-graph.result.facts c.args.tallies.now e.keys e.facts in
    let same = subst (λ f. (f.keys ≡ c.args.tallies.now.keys) × AreSame (HasFact f) (HasFact c.args.tallies.now)) c.facts.ensures (c.same.ensures.exact.0 c.if-same.true) in
    (λ _. law.0 same, λ _. refl)

pub returns-else-same-clause-exact : goal.returns-else-same-clause-exact
returns-else-same-clause-exact c =
    let e = c.into_graph-graph.ensures in
    let law = settles-same c.args.book c.into_graph-graph.result.facts c.args.tallies.now e.keys e.facts in (
      λ is. cc,
      λ settles.
          let same = subst (λ f. (f.keys ≡ c.args.tallies.now.keys) × AreSame (HasFact f) (HasFact c.args.tallies.now)) (sym c.facts.ensures) (law.1 settles) in
          let yes = c.same.ensures.exact.1 same in
          let no = c.if-same.false in cc,
    )
