use Rattle.ld_explain.proofs.Names.{HasFact, OnCircle-member, arrow, kinds}
use Rattle.ld_explain.proofs.FindingLemmas.{AddsThose-map_never, AddsThose-map_next}
use Rattle.ld_explain.proofs.found.Finder.add_circles_to.Goals as goal

pub returns-then-not-has_dependency : goal.returns-then-not-has_dependency
returns-then-not-has_dependency c =
    let facts = HasFact c.args.self.settled.now in
    AddsThose-map_never _ (arrow c.args.from c.args.to)
    (λ kind on. c.has_dependency.ensures (let no_one = c.if-not-has_dependency.true in cc) kind (OnCircle-member facts (arrow c.args.from c.args.to kind) on))
    kinds _

pub loop-kind-preserved : goal.loop-kind-preserved
loop-kind-preserved c = AddsThose-map_next _ _ _ _ _ _ _ _ c.loop-kind-test.true c.loop-kind.invariant c.in_ok-add_circle.ensures
