use Rattle.ld_run.proofs.Names.{◌∙◌, Event, IsWalking, List, View, WalksOn, arith, keys_of, subst, sym, view}
use Rattle.ld_run.proofs.Walking.{few_chains, never_past, walked-lost, walked-refused, walked-whole}
use Rattle.ld_run.proofs.worker.walk_rest.Goals as goal

pub loop-walk-init : goal.loop-walk-init
loop-walk-init g c =
    let (start, walking) = c.requires.walking in
    (c.requires.seat, c.requires.within, few_chains (keys_of c.args.board.now) start (view c.args.seat.now) c.args.events.now c.args.walk walking, λ x h. h, c.requires.walking, λ s w. w)

pub unreachable-requires : goal.unreachable-requires
unreachable-requires g c =
    let test = c.loop-walk-test.true in
    let count = c.len.ensures.count in
    never_past c.args.events.now c.loop-walk.walk.place (omega (arith, test, count)) (sym c.event.ensures ∙ c.in_default.is)

pub walk_event-requires-clause-next : goal.walk_event-requires-clause-next
walk_event-requires-clause-next g c =
    let (start, walking) = c.loop-walk.invariant.4 in
    (start, c.args.events.now, record { walking = walking; here = sym c.event.ensures ∙ c.in-Some.is; below = c.requires.below })

pub walk_event-requires-clause-place : goal.walk_event-requires-clause-place
walk_event-requires-clause-place g c =
    let test = c.loop-walk-test.true in
    let most = c.len.ensures.most in
    omega (arith, test, most)

pub returns-in_err-refused-clause-walked : goal.returns-in_err-refused-clause-walked
returns-in_err-refused-clause-walked g c = λ start w.
    let t : List Event = c.args.events.now in
    walked-lost c.trace_facts_are_the_chains.ensures (keys_of c.args.board.now) start (view c.walk_event.new.seat) t c.walk_event.new.walk c.from_residual.result c.from_residual.ensures.0
    (c.in_err-refused.ensures.walks_on start t (record { walking = c.loop-walk.invariant.5 start w; here = sym c.event.ensures ∙ c.in-Some.is; below = c.requires.below }))

pub returns-in-Some-refused-clause-walked : goal.returns-in-Some-refused-clause-walked
returns-in-Some-refused-clause-walked g c = λ start w.
    let keys = keys_of c.args.board.now in
    let t : List Event = c.args.events.now in
    let on = c.in_ok-refused.ensures.walks_on start t (record { walking = c.loop-walk.invariant.5 start w; here = sym c.event.ensures ∙ c.in-Some.is; below = c.requires.below }) in
    walked-refused c.trace_facts_are_the_chains.ensures c.beginnings_keep_their_chains.ensures c.beginnings_keep_their_faults.ensures keys start (view c.walk_event.new.seat) t c.walk_event.new.walk c.in-Some-refused.first
    (subst (WalksOn keys start (view c.walk_event.new.seat) c.walk_event.new.walk t) c.in-Some-refused.is on)

pub loop-walk-smaller : goal.loop-walk-smaller
loop-walk-smaller g c =
    let test = c.loop-walk-test.true in
    let count = c.len.ensures.count in
    let on = c.in_ok-refused.ensures.on c.in_default-refused.is in
    omega (arith, test, count, on)

pub loop-walk-preserved : goal.loop-walk-preserved
loop-walk-preserved g c =
    let keys = keys_of c.args.board.now in
    let t : List Event = c.args.events.now in
    let new = view c.walk_event.new.seat in
    let i = c.loop-walk.invariant in
    let test = c.loop-walk-test.true in
    let count = c.len.ensures.count in
    let place = c.in_ok-refused.ensures.on c.in_default-refused.is in
    let on : (start : View) → IsWalking keys start (view c.loop-walk.seat) t c.loop-walk.walk → IsWalking keys start new t c.walk_event.new.walk =
    λ start walking. subst (WalksOn keys start new c.walk_event.new.walk t) c.in_default-refused.is
    (c.in_ok-refused.ensures.walks_on start t (record { walking = walking; here = sym c.event.ensures ∙ c.in-Some.is; below = c.requires.below })) in
    let (start, walking) = i.4 in (
      c.walk_event.ensures.seat,
      omega (arith, test, count, place),
      few_chains keys start new t c.walk_event.new.walk (on start walking),
      λ x h. c.walk_event.ensures.keeps x (i.3 x h),
      (start, on start walking),
      λ s w. on s (i.5 s w),
    )

pub returns-clause-walked : goal.returns-clause-walked
returns-clause-walked g c = λ start w.
    let test = c.loop-walk-test.false in
    let count = c.len.ensures.count in
    walked-whole c.trace_facts_are_the_chains.ensures c.beginnings_keep_their_chains.ensures (keys_of c.args.board.now) start (view c.loop-walk.seat) c.args.events.now c.loop-walk.walk (omega (arith, test, count)) (c.loop-walk.invariant.5 start w)
