use Rattle.ld_run.proofs.Names.{◌+◌, ◌∙◌, ◌≡◌, ChainCallsBelow, Event, FactParts, GoesOn, HasThere, Holds, IsSumming, List, Ok, ap, arith, in_facts, inl, refl, subst, sym}
use Rattle.ld_run.proofs.Summing.{IsSumming-chain, IsSumming-same, IsSumming-well_formed, IsSumming-whole, stays_there}
use Rattle.ld_run.proofs.Walking.{chain_called_below, never_past}
use Rattle.ld_run.proofs.trace_facts.add_rest.Goals as goal
use Rattle.ld_run.proofs.trace_facts.add_rest.Goals.{in-Some-answer, in_default-answer}

pub loop-place-init : goal.loop-place-init
loop-place-init c =
    let t : List Event = c.args.trace.now in
    let facts = c.args.facts.now in
    let (start, now) = c.requires.summing in (
      refl,
      λ x h. h,
      (start, subst (λ s. IsSumming c.args.others start facts t c.args.walk.place s) (sym c.copied-state.ensures) now),
      λ s w. subst (λ state. IsSumming c.args.others s facts t c.args.walk.place state) (sym c.copied-state.ensures) w,
    )

pub unreachable-requires : goal.unreachable-requires
unreachable-requires c =
    let l = c.loop-place-test.true in
    let e = c.len-place-end.ensures.count in
    never_past c.args.trace.now c.loop-place.place (omega (arith, l, e)) (sym c.event.ensures ∙ c.in_default.is)

pub add_called-requires : goal.add_called-requires
add_called-requires c =
    let (start, now) = c.loop-place.invariant.2 in
    subst (λ k. ChainCallsBelow c.args.others k c.in-Some-answer.chain) (sym c.loop-place.invariant.0)
    (chain_called_below c.chain_keys_are_the_traces.ensures c.args.others c.args.facts.now.keys c.args.trace.now c.loop-place.place c.step.new.self c.step.result c.in-Some-answer.chain (c.in-Ok.is ∙ ap Ok c.in-Some-answer.is)
    (c.step.ensures.goes_on c.args.trace.now c.loop-place.place now.after (sym c.event.ensures ∙ c.in-Some.is)) c.requires.below)

pub returns-in-Err-clause-keys : goal.returns-in-Err-clause-keys
returns-in-Err-clause-keys c = c.loop-place.invariant.0

pub returns-in-Err-clause-keeps : goal.returns-in-Err-clause-keeps
returns-in-Err-clause-keeps c = c.loop-place.invariant.1

pub returns-in-Err-clause-refused : goal.returns-in-Err-clause-refused
returns-in-Err-clause-refused c =
    let (start, now) = c.loop-place.invariant.2 in
    subst (λ x. GoesOn c.args.trace.now c.loop-place.place c.step.new.self x) c.in-Err.is
    (c.step.ensures.goes_on c.args.trace.now c.loop-place.place now.after (sym c.event.ensures ∙ c.in-Some.is))

pub loop-place-preserved : goal.loop-place-preserved
loop-place-preserved c =
    let i = c.loop-place.invariant in
    let (start, now) = i.2 in
    let others = c.args.others in
    let old = c.loop-place.facts in
    let first = c.args.facts.now in
    let t : List Event = c.args.trace.now in
    let n = c.loop-place.place in
    let state = c.step.new.self in
    let on = c.step.ensures.goes_on t n now.after (sym c.event.ensures ∙ c.in-Some.is) in
    elim c.match-answer.branch [
      | in-Some-answer w ↦
          let new = w.add_called.new.facts in
          let e = w.add_called.ensures in
          let more : (s : FactParts) → IsSumming others s old t n c.loop-place.state → IsSumming others s new t (n + 1) state =
          λ s was. IsSumming-chain others s old new t n c.loop-place.state state c.step.result w.in-Some-answer.chain (c.in-Ok.is ∙ ap Ok w.in-Some-answer.is) on e.keys e.adds was in
          subst (λ f. (f.keys ≡ first.keys) × Holds (HasThere (in_facts others f)) (HasThere (in_facts others first)) × ((s : FactParts) × IsSumming others s f t (n + 1) state)
          × ((s : FactParts) → IsSumming others s first t c.args.walk.place c.args.walk.state → IsSumming others s f t (n + 1) state)) (sym w.facts-is) (
            e.keys ∙ i.0,
            λ x h. stays_there others old new (λ y h. (e.adds y).1 (inl h)) x (i.1 x h),
            (start, more start now),
            λ s w. more s (i.3 s w),
          )
      | in_default-answer w ↦
          let more : (s : FactParts) → IsSumming others s old t n c.loop-place.state → IsSumming others s old t (n + 1) state =
          λ s was. IsSumming-same others s old t n c.loop-place.state state c.step.result (c.in-Ok.is ∙ ap Ok w.in_default-answer.is) on was in
          subst (λ f. (f.keys ≡ first.keys) × Holds (HasThere (in_facts others f)) (HasThere (in_facts others first)) × ((s : FactParts) × IsSumming others s f t (n + 1) state)
          × ((s : FactParts) → IsSumming others s first t c.args.walk.place c.args.walk.state → IsSumming others s f t (n + 1) state)) (sym w.facts-is) (
            i.0,
            i.1,
            (start, more start now),
            λ s w. more s (i.3 s w),
          )
    ]

pub returns-clause-keys : goal.returns-clause-keys
returns-clause-keys c = c.loop-place.invariant.0

pub returns-clause-keeps : goal.returns-clause-keeps
returns-clause-keeps c = c.loop-place.invariant.1

pub returns-clause-well_formed : goal.returns-clause-well_formed
returns-clause-well_formed c =
    let l = c.loop-place-test.false in
    let e = c.len-place-end.ensures.count in
    let (start, now) = c.loop-place.invariant.2 in
    IsSumming-well_formed c.args.others start c.loop-place.facts c.args.trace.now c.loop-place.place c.loop-place.state (omega (arith, l, e)) now

pub returns-clause-adds : goal.returns-clause-adds
returns-clause-adds c = λ start now.
    let l = c.loop-place-test.false in
    let e = c.len-place-end.ensures.count in
    IsSumming-whole c.trace_facts_are_the_chains.ensures c.args.others start c.loop-place.facts c.args.trace.now c.loop-place.place c.loop-place.state (omega (arith, l, e)) (c.loop-place.invariant.3 start now)
