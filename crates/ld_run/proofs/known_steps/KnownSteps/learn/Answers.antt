use Rattle.ld_run.proofs.Names.{◌≡◌, EndState, IfSome, List, Some, slice_get, subst, sym}
use Rattle.ld_run.proofs.Knowing.{AreKnown-more, slice_get-left}
use Rattle.ld_run.proofs.known_steps.KnownSteps.learn.Goals as goal

pub returns-in_err-number-clause-learns : goal.returns-in_err-number-clause-learns
returns-in_err-number-clause-learns c = λ store from here step are.
    let e = c.number_of.ensures in
    AreKnown-more store c.args.self.now c.number_of.new.self e.more.0 e.more.1 e.steps (e.few are.few) are

pub returns-in-Some-clause-learns : goal.returns-in-Some-clause-learns
returns-in-Some-clause-learns c = λ store from here step are.
    let e = c.number_of.ensures in
    let old : List EndState = c.args.self.now.states.items in
    let at = slice_get-left old e.more.0 c.in-Some.from from (subst (λ o. IfSome o (λ n. slice_get old n ≡ Some from)) c.in-Some.is here) in
    c.keep.ensures.keeps store from c.args.to.now (subst (λ all. slice_get all c.in-Some.from ≡ Some from) (sym e.more.1) at) c.in_ok-number.ensures.there step
    (AreKnown-more store c.args.self.now c.number_of.new.self e.more.0 e.more.1 e.steps (e.few are.few) are)

pub returns-in_default-clause-learns : goal.returns-in_default-clause-learns
returns-in_default-clause-learns c = λ store from here step are.
    let e = c.number_of.ensures in
    AreKnown-more store c.args.self.now c.number_of.new.self e.more.0 e.more.1 e.steps (e.few are.few) are
