use Rattle.ld_text.proofs.Names.{HasFact, IsFoundArrow, Kind, Leads, ShowsEdge, arith, arrow, inr, kinds, refl, take_all}
use Rattle.ld_text.proofs.GroupLemmas.{GrowsBy-more, GrowsBy-none, GrowsBy-nothing, InTurn-nothing}
use Rattle.ld_text.proofs.JoinedLemmas.{IsFoundArrow-dependency, next-same, next-true}
use Rattle.ld_text.proofs.PictureGrowing.{none-yet, says-false}
use Rattle.ld_text.proofs.picture.PictureView.add_edges_to.Goals as goal
use Rattle.ld_text.proofs.picture.PictureView.add_edges_to.Goals.{then-branch, else-branch}

pub returns-then-not-has_dependency-clause-text : goal.returns-then-not-has_dependency-clause-text
returns-then-not-has_dependency-clause-text c = GrowsBy-nothing _ _
    (InTurn-nothing (λ kind. ShowsEdge (HasFact c.args.self.settled.now) c.args.self.names.now.names c.args.self.only (arrow c.args.from c.args.to kind)) (λ kind. inr (c.has_dependency.ensures (let none = c.if-not-has_dependency.true in cc) kind, refl)) kinds)

pub returns-then-not-has_dependency-clause-leads : goal.returns-then-not-has_dependency-clause-leads
returns-then-not-has_dependency-clause-leads c = says-false (Leads (HasFact c.args.self.settled.now) c.args.from c.args.to)
    (λ (i, kind, within, is, found). c.has_dependency.ensures (let none = c.if-not-has_dependency.true in cc) kind
    (IsFoundArrow-dependency (HasFact c.args.self.settled.now) (arrow c.args.from c.args.to kind) found))

pub loop-kind-init : goal.loop-kind-init
loop-kind-init c = record { text = GrowsBy-none _; leads = says-false _ (none-yet _) }

pub loop-kind-preserved : goal.loop-kind-preserved
loop-kind-preserved c =
    let Found : Kind → Type 0 = λ kind. IsFoundArrow (HasFact c.args.self.settled.now) (arrow c.args.from c.args.to kind) in
    let within = c.loop-kind-test.true in
    let text = GrowsBy-more _ _ _ _ _ _ _ within c.loop-kind.invariant.text c.in_ok-add_edge.ensures.text in
    elim c.if-branch.branch [
      | then-branch w ↦ rw w.any-is record {
        text = text;
        leads = next-true Found kinds c.loop-kind.kind-index _ within (c.in_ok-add_edge.ensures.found.0 w.if-branch.true);
      }
      | else-branch w ↦ rw w.any-is record {
        text = text;
        leads = next-same Found kinds c.loop-kind.kind-index _ c.loop-kind.any within c.loop-kind.invariant.leads
            (λ found. let is = c.in_ok-add_edge.ensures.found.1 found in let no = w.if-branch.false in cc);
      }
    ]

pub returns-clause-leads : goal.returns-clause-leads
returns-clause-leads c = rw (take_all c.loop-kind.kind-index kinds (omega (arith, c.loop-kind-test.false))) at c.loop-kind.invariant.leads
