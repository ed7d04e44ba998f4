use Rattle.ld_run.proofs.Names.{◌∙◌, ◌≡◌, CallsBelow, Event, IfSome, List, Some, arith, in_facts, slice_get, slice_get_within, subst, sym}
use Rattle.std.proofs.lemmas.Result.{err_from_is_err_and}
use Rattle.ld_run.proofs.Knowing.{AreKnown-later, AreKnown-more, AreKnown-same}
use Rattle.ld_run.proofs.Summing.{IsSumming-along, IsSumming-none, IsSumming-well_formed, IsSumming-whole}
use Rattle.ld_run.proofs.Walking.{on_ok, past_end}
use Rattle.ld_run.proofs.trace_facts.add_trace.Goals as goal

pub loop-here-init : goal.loop-here-init
loop-here-init c =
    let facts = c.args.facts.now in
    let e = c.number_of-here.ensures in
    let new = c.new-walk.ensures in (
      omega (arith, new.place),
      omega (arith, new.place, new.number),
      AreKnown-more (in_facts c.args.others facts) c.args.known.now c.number_of-here.new.self e.more.0 e.more.1 e.steps (e.few c.requires.known.few) c.requires.known,
      e.there,
      IsSumming-none c.args.others facts c.args.trace.now c.new-walk.result new.place (new.start c.args.trace.now),
    )

pub returns-in_default-clause-keys : goal.returns-in_default-clause-keys
returns-in_default-clause-keys c = c.loop-here.invariant.4.keys_are

pub returns-in_default-clause-known : goal.returns-in_default-clause-known
returns-in_default-clause-known c =
    let e = c.next_missed.ensures in
    AreKnown-same (in_facts c.args.others c.loop-here.facts) c.loop-here.known c.next_missed.new.self e.states e.steps c.loop-here.invariant.2

pub returns-in_default-clause-well_formed : goal.returns-in_default-clause-well_formed
returns-in_default-clause-well_formed c =
    let t : List Event = c.args.trace.now in
    let i = c.loop-here.invariant in
    let e = c.next_missed.ensures in
    let follows = e.follows (in_facts c.args.others c.loop-here.facts) i.2 i.3 i.4.after in
    let now = IsSumming-along c.args.others c.args.facts.now c.loop-here.facts t c.loop-here.walk c.next_missed.new.walk follows.1 i.4 in
    IsSumming-well_formed c.args.others c.args.facts.now c.loop-here.facts t c.next_missed.new.walk.place c.next_missed.new.walk.state
    (past_end t c.next_missed.new.walk.place (sym e.next ∙ c.in_default.is)) now

pub returns-in_default-clause-adds : goal.returns-in_default-clause-adds
returns-in_default-clause-adds c =
    let t : List Event = c.args.trace.now in
    let i = c.loop-here.invariant in
    let e = c.next_missed.ensures in
    let follows = e.follows (in_facts c.args.others c.loop-here.facts) i.2 i.3 i.4.after in
    let now = IsSumming-along c.args.others c.args.facts.now c.loop-here.facts t c.loop-here.walk c.next_missed.new.walk follows.1 i.4 in
    IsSumming-whole c.trace_facts_are_the_chains.ensures c.args.others c.args.facts.now c.loop-here.facts t c.next_missed.new.walk.place c.next_missed.new.walk.state
    (past_end t c.next_missed.new.walk.place (sym e.next ∙ c.in_default.is)) now

pub add_event-requires-clause-next : goal.add_event-requires-clause-next
add_event-requires-clause-next c =
    let t : List Event = c.args.trace.now in
    let i = c.loop-here.invariant in
    let e = c.next_missed.ensures in
    let follows = e.follows (in_facts c.args.others c.loop-here.facts) i.2 i.3 i.4.after in (
      c.args.facts.now,
      t,
      record {
        summing = IsSumming-along c.args.others c.args.facts.now c.loop-here.facts t c.loop-here.walk c.next_missed.new.walk follows.1 i.4;
        here = sym e.next ∙ c.in-Some.is;
        below = subst (λ keys. CallsBelow c.args.others keys t) (sym i.4.keys_are) c.requires.below;
      },
    )

pub add_event-requires-clause-place : goal.add_event-requires-clause-place
add_event-requires-clause-place c = rw c.in-Some.is at c.next_missed.ensures.room

pub returns-in_err-add_event-clause-keys : goal.returns-in_err-add_event-clause-keys
returns-in_err-add_event-clause-keys c = c.add_event.ensures.keys ∙ c.loop-here.invariant.4.keys_are

pub returns-in_err-add_event-clause-known : goal.returns-in_err-add_event-clause-known
returns-in_err-add_event-clause-known c =
    let p = err_from_is_err_and c.from_residual.result c.from_residual.ensures.1 in
    rw p.1 tt

pub returns-in_err-add_event-clause-well_formed : goal.returns-in_err-add_event-clause-well_formed
returns-in_err-add_event-clause-well_formed c =
    let p = err_from_is_err_and c.from_residual.result c.from_residual.ensures.1 in
    rw p.1 tt

pub returns-in_err-add_event-clause-adds : goal.returns-in_err-add_event-clause-adds
returns-in_err-add_event-clause-adds c =
    let p = err_from_is_err_and c.from_residual.result c.from_residual.ensures.1 in
    rw p.1 tt

pub returns-in_err-add_event-clause-refused : goal.returns-in_err-add_event-clause-refused
returns-in_err-add_event-clause-refused c =
    let p = err_from_is_err_and c.from_residual.result c.from_residual.ensures.1 in
    let i = c.loop-here.invariant in
    let e = c.next_missed.ensures in
    let follows = e.follows (in_facts c.args.others c.loop-here.facts) i.2 i.3 i.4.after in
    rw (p.1, p.2) (c.in_err-add_event.ensures.refused c.args.trace.now follows.1.after (sym e.next ∙ c.in-Some.is))

pub loop-here-smaller : goal.loop-here-smaller
loop-here-smaller c =
    let e = c.next_missed.ensures in
    let within = slice_get_within c.args.trace.now c.next_missed.new.walk.place c.in-Some.event (sym e.next ∙ c.in-Some.is) in
    let before = e.on in
    let on = c.in_ok-add_event.ensures.on in
    omega (arith, within, before, on)

pub loop-here-preserved : goal.loop-here-preserved
loop-here-preserved c =
    let t : List Event = c.args.trace.now in
    let start = c.args.facts.now in
    let i = c.loop-here.invariant in
    let old = in_facts c.args.others c.loop-here.facts in
    let new = in_facts c.args.others c.add_event.new.facts in
    let e = c.next_missed.ensures in
    let here_is = sym e.next ∙ c.in-Some.is in
    let follows = e.follows old i.2 i.3 i.4.after in
    let within = slice_get_within t c.next_missed.new.walk.place c.in-Some.event here_is in
    let place = c.in_ok-add_event.ensures.on in
    let same = AreKnown-same old c.loop-here.known c.next_missed.new.self e.states e.steps i.2 in
    let known = AreKnown-later old new c.next_missed.new.self c.add_event.ensures.keeps same in
    let here = subst (λ all. IfSome c.next_missed.new.here (λ n. slice_get all.items n ≡ Some c.next_missed.new.walk.state)) (sym e.states) follows.0 in (
      omega (arith, within, place),
      c.add_event.ensures.few,
      c.learn-here.ensures.learns new c.next_missed.new.walk.state here c.in_ok-add_event.ensures.step known,
      c.learn-here.ensures.there,
      c.in_ok-add_event.ensures.adds start t (record {
        summing = IsSumming-along c.args.others start c.loop-here.facts t c.loop-here.walk c.next_missed.new.walk follows.1 i.4;
        here = here_is;
        below = subst (λ keys. CallsBelow c.args.others keys t) (sym i.4.keys_are) c.requires.below;
      }),
    )

pub add_rest-requires-clause-below : goal.add_rest-requires-clause-below
add_rest-requires-clause-below c = subst (λ keys. CallsBelow c.args.others keys c.args.trace.now) (sym c.loop-here.invariant.4.keys_are) c.requires.below

pub add_rest-requires-clause-summing : goal.add_rest-requires-clause-summing
add_rest-requires-clause-summing c = (c.args.facts.now, c.loop-here.invariant.4)

pub returns-clause-keys : goal.returns-clause-keys
returns-clause-keys c = c.add_rest.ensures.keys ∙ c.loop-here.invariant.4.keys_are

pub returns-clause-known : goal.returns-clause-known
returns-clause-known c =
    on_ok c.add_rest.result (AreKnown-later (in_facts c.args.others c.loop-here.facts) (in_facts c.args.others c.add_rest.new.facts) c.loop-here.known c.add_rest.ensures.keeps c.loop-here.invariant.2)

pub returns-clause-adds : goal.returns-clause-adds
returns-clause-adds c = c.add_rest.ensures.adds c.args.facts.now c.loop-here.invariant.4
