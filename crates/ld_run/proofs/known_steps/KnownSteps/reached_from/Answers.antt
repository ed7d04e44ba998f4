use Rattle.ld_run.proofs.Names.{◌∙◌, ◌≡◌, ◌≤◌, Bool, GoesAlong, ap, arith, false, from_bool, subst, sym, true}
use Rattle.ld_run.proofs.Walking.{GoesAlong-none, GoesAlong-step}
use Rattle.ld_run.proofs.known_steps.KnownSteps.reached_from.Goals as goal

pub loop-place-init : goal.loop-place-init
loop-place-init c = (
  c.requires.few,
  (λ store state are at after. (state, at, GoesAlong-none store c.args.events.now (record { place = c.args.start; state = state; number = c.args.chains }) after)),
)

pub loop-place-preserved : goal.loop-place-preserved
loop-place-preserved c = (
  (let few = c.loop-place.invariant.0 in omega (arith, few, one_at_most c.makes_chain.result, c.from-number.ensures)),
  (λ store state are at after.
      let (next, there, on) = c.loop-place.invariant.1 store state are at after in
      let (to, to_at, step) = c.in-Some-find.ensures store next are there in (
        to,
        to_at,
        GoesAlong-step store c.args.events.now (record { place = c.args.start; state = state; number = c.args.chains }) c.loop-place.place c.loop-place.number c.from-number.result next to c.in-Some.event step
            (sym c.event.ensures ∙ c.in-Some.is) (c.from-number.ensures ∙ ap from_bool c.makes_chain.ensures) on,
      )),
)
  where
    one_at_most : (b : Bool) → from_bool b ≤ 1
    one_at_most true = omega arith
    one_at_most false = omega arith

pub returns-clause-reaches : goal.returns-clause-reaches
returns-clause-reaches c = λ store state are at after.
    let (next, there, on) = c.loop-place.invariant.1 store state are at after in
    let past = c.loop-place-test.false in
    let within = c.loop-place.auto.place-end (omega (arith, c.requires.within, c.len-place-end.ensures.count)) in
    let whole : c.loop-place.place ≡ c.len.result = omega (arith, past, within, c.len-place-end.ensures.count, c.len.ensures.count) in
    (next, there, subst (λ n. GoesAlong store c.args.events.now (record { place = c.args.start; state = state; number = c.args.chains }) (record { place = n; state = next; number = c.loop-place.number })) whole on)
