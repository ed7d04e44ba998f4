use Rattle.ld_explain.proofs.Names.{AddsEach, HasFact, IsInversionChoice, subst, sym, take-item}
use Rattle.ld_explain.proofs.ChoosingLemmas.{inversion-among, each-more, each-none}
use Rattle.ld_explain.proofs.choices.Choices.add_inversions.Goals as goal

pub loop-inversion-init : goal.loop-inversion-init
loop-inversion-init c = each-none c.args.settled.now (IsInversionChoice (HasFact c.args.settled.now)) (inversion-among (HasFact c.args.settled.now)) c.args.self.now c.requires.asked

pub add_inversion-requires-clause-is : goal.add_inversion-requires-clause-is
add_inversion-requires-clause-is c = rw c.inversion-item.is (c.requires.are _ _ c.loop-inversion-test.true)

pub loop-inversion-preserved : goal.loop-inversion-preserved
loop-inversion-preserved c =
    let facts = c.args.settled.now in
    subst (λ xs. AddsEach facts (IsInversionChoice (HasFact facts)) xs c.args.self.now c.add_inversion.new.self)
    (sym (take-item c.args.inversions.now c.loop-inversion.inversion-index _ c.inversion-item.is c.loop-inversion-test.true))
    (each-more facts (IsInversionChoice (HasFact facts)) (inversion-among (HasFact facts)) _ c.inversion-item.result c.args.self.now c.loop-inversion.self c.add_inversion.new.self c.loop-inversion.invariant
    c.in_ok-add_inversion.ensures)
