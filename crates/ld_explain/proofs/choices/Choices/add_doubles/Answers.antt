use Rattle.ld_explain.proofs.Names.{AddsEach, HasFact, IsDoubleChoice, subst, sym, take-item}
use Rattle.ld_explain.proofs.ChoosingLemmas.{double-among, each-more, each-none}
use Rattle.ld_explain.proofs.choices.Choices.add_doubles.Goals as goal

pub loop-double-init : goal.loop-double-init
loop-double-init c = each-none c.args.settled.now (IsDoubleChoice (HasFact c.args.settled.now)) (double-among (HasFact c.args.settled.now)) c.args.self.now c.requires.asked

pub add_double-requires-clause-is : goal.add_double-requires-clause-is
add_double-requires-clause-is c = rw c.double-item.is (c.requires.are _ _ c.loop-double-test.true)

pub loop-double-preserved : goal.loop-double-preserved
loop-double-preserved c =
    let facts = c.args.settled.now in
    subst (λ xs. AddsEach facts (IsDoubleChoice (HasFact facts)) xs c.args.self.now c.add_double.new.self)
    (sym (take-item c.args.doubles.now c.loop-double.double-index _ c.double-item.is c.loop-double-test.true))
    (each-more facts (IsDoubleChoice (HasFact facts)) (double-among (HasFact facts)) _ c.double-item.result c.args.self.now c.loop-double.self c.add_double.new.self c.loop-double.invariant
    c.in_ok-add_double.ensures)
