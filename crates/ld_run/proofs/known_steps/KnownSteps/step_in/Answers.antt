use Rattle.ld_run.proofs.Names.{◌<◌, ◌∙◌, ◌≡◌, EndState, IsKnown, List, Some, arith, slice_get, subst, sym}
use Rattle.std.proofs.lemmas.Option.{slice_get_within}
use Rattle.ld_run.specs.declared.known_steps.KnownStep.{KnownStep}
use Rattle.ld_run.specs.declared.known_steps.TheConstants.{NO_STATE}
use Rattle.ld_run.proofs.Knowing.{known-found}
use Rattle.ld_run.proofs.known_steps.KnownSteps.step_in.Goals as goal

pub returns-then-step-code_of : goal.returns-then-step-code_of
returns-then-step-code_of c = λ store state are at.
    let step : KnownStep = c.in_ok-step.step.now in
    let states : List EndState = c.args.self.now.states.items in
    let there = rw c.deref.ensures.value at c.in_ok-step.ensures.lookup.3 in
    let here = subst (λ n. slice_get states n ≡ Some state) (sym c.if-step-from.true) at in
    let one = subst (λ s. s.from < NO_STATE → IsKnown store states s) (sym (there.1 step)) (are.steps c.args.slot step there.0) in
    known-found store states step (one (omega (arith, slice_get_within states step.from state here, are.few))) c.args.event.now state
    (c.if-step-code_of.true ∙ c.code_of.ensures) here
