use Rattle.ld_run.proofs.Names.{◌∙◌, ◌≡◌, EndState, GoesAlong, IfSome, List, Some, get_or_from_slice_get, slice_get, subst, sym}
use Rattle.ld_run.specs.declared.known_steps.Reached.{Reached}
use Rattle.ld_run.proofs.known_steps.KnownSteps.follow.Goals as goal

pub returns-clause-follows : goal.returns-clause-follows
returns-clause-follows c = λ store are here after.
    let states : List EndState = c.args.self.now.states.items in
    let reached : Reached = c.reached_from-reached.result in
    let state : EndState = c.in_ok-state.state.now in
    let at = subst (λ o. IfSome o (λ n. slice_get states n ≡ Some c.args.walk.now.state)) c.in_ok-from.was here in
    let (next, there, on) = c.reached_from-reached.ensures.reaches store c.args.walk.now.state are at after in
    let read = rw (c.deref.ensures.value, c.from.ensures) at c.in_ok-state.ensures.lookup.3 in
    let same : next ≡ c.copied.result = sym (get_or_from_slice_get states reached.state next state there) ∙ sym (read.1 state) ∙ sym c.copied.ensures in
    subst (λ s. (slice_get states reached.state ≡ Some s) × GoesAlong store c.args.events.now c.args.walk.now (record { place = reached.place; state = s; number = reached.number })) same (there, on)
