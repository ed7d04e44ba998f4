use Rattle.ld_run.proofs.Names.{◌∙◌, ◌≡◌, ComesNext, Event, IfSome, List, Some, WalksOn, arith, keys_of, on_board, slice_get, slice_get_within, subst, sym, view}
use Rattle.ld_run.proofs.Knowing.{AreKnown-later, AreKnown-more, AreKnown-same}
use Rattle.ld_run.proofs.Walking.{IsWalking-along, IsWalking-none, few_chains, on_ok, past_end, walked-lost, walked-refused, walked-whole}
use Rattle.ld_run.proofs.worker.walk_trace.Goals as goal

pub loop-here-init : goal.loop-here-init
loop-here-init g c =
    let keys = keys_of c.args.board.now in
    let now = view c.args.seat.now in
    let e = c.number_of-here.ensures in
    let new = c.new-walk.ensures in (
      c.requires.seat,
      omega (arith, new.place),
      omega (arith, new.place, new.number),
      AreKnown-more (on_board keys now) c.args.known.now c.number_of-here.new.self e.more.0 e.more.1 e.steps (e.few c.requires.known.few) c.requires.known,
      e.there,
      IsWalking-none keys now c.args.events.now c.new-walk.result new.place new.number (new.start c.args.events.now),
    )

pub returns-in_default-clause-known : goal.returns-in_default-clause-known
returns-in_default-clause-known g c =
    let e = c.next_missed-missed.ensures in
    AreKnown-same (on_board (keys_of c.args.board.now) (view c.loop-here.seat)) c.loop-here.known c.next_missed-missed.new.self e.states e.steps c.loop-here.invariant.3

pub returns-in_default-clause-walked : goal.returns-in_default-clause-walked
returns-in_default-clause-walked g c =
    let keys = keys_of c.args.board.now in
    let t : List Event = c.args.events.now in
    let i = c.loop-here.invariant in
    let start = view c.args.seat.now in
    let now = view c.loop-here.seat in
    let e = c.next_missed-missed.ensures in
    let follows = e.follows (on_board keys now) i.3 i.4 i.5.after in
    let walking = IsWalking-along keys start now t c.loop-here.walk c.next_missed-missed.new.walk follows.1 i.5 in
    walked-whole c.trace_facts_are_the_chains.ensures c.beginnings_keep_their_chains.ensures keys start now t c.next_missed-missed.new.walk
    (past_end t c.next_missed-missed.new.walk.place (sym e.next ∙ c.in_default.is)) walking

pub walk_event-requires-clause-next : goal.walk_event-requires-clause-next
walk_event-requires-clause-next g c =
    let keys = keys_of c.args.board.now in
    let t : List Event = c.args.events.now in
    let i = c.loop-here.invariant in
    let start = view c.args.seat.now in
    let now = view c.loop-here.seat in
    let e = c.next_missed-missed.ensures in
    let follows = e.follows (on_board keys now) i.3 i.4 i.5.after in
    let walking = IsWalking-along keys start now t c.loop-here.walk c.next_missed-missed.new.walk follows.1 i.5 in
    (start, t, record { walking = walking; here = sym e.next ∙ c.in-Some.is; below = c.requires.below })

pub walk_event-requires-clause-place : goal.walk_event-requires-clause-place
walk_event-requires-clause-place g c = rw c.in-Some.is at c.next_missed-missed.ensures.room

pub returns-in_err-found-clause-walked : goal.returns-in_err-found-clause-walked
returns-in_err-found-clause-walked g c =
    let keys = keys_of c.args.board.now in
    let t : List Event = c.args.events.now in
    let i = c.loop-here.invariant in
    let start = view c.args.seat.now in
    let now = view c.loop-here.seat in
    let e = c.next_missed-missed.ensures in
    let follows = e.follows (on_board keys now) i.3 i.4 i.5.after in
    let walking = IsWalking-along keys start now t c.loop-here.walk c.next_missed-missed.new.walk follows.1 i.5 in
    walked-lost c.trace_facts_are_the_chains.ensures keys start (view c.walk_event.new.seat) t c.walk_event.new.walk c.from_residual.result c.from_residual.ensures.0
    (c.in_err-found.ensures.walks_on start t (record { walking = walking; here = sym e.next ∙ c.in-Some.is; below = c.requires.below }))

pub returns-in-Some-found-clause-known : goal.returns-in-Some-found-clause-known
returns-in-Some-found-clause-known g c =
    let keys = keys_of c.args.board.now in
    let old = on_board keys (view c.loop-here.seat) in
    let e = c.next_missed-missed.ensures in
    let same = AreKnown-same old c.loop-here.known c.next_missed-missed.new.self e.states e.steps c.loop-here.invariant.3 in
    AreKnown-later old (on_board keys (view c.walk_event.new.seat)) c.next_missed-missed.new.self c.walk_event.ensures.keeps same

pub returns-in-Some-found-clause-walked : goal.returns-in-Some-found-clause-walked
returns-in-Some-found-clause-walked g c =
    let keys = keys_of c.args.board.now in
    let t : List Event = c.args.events.now in
    let i = c.loop-here.invariant in
    let start = view c.args.seat.now in
    let now = view c.loop-here.seat in
    let e = c.next_missed-missed.ensures in
    let follows = e.follows (on_board keys now) i.3 i.4 i.5.after in
    let walking = IsWalking-along keys start now t c.loop-here.walk c.next_missed-missed.new.walk follows.1 i.5 in
    let on = c.in_ok-found.ensures.walks_on start t (record { walking = walking; here = sym e.next ∙ c.in-Some.is; below = c.requires.below }) in
    walked-refused c.trace_facts_are_the_chains.ensures c.beginnings_keep_their_chains.ensures c.beginnings_keep_their_faults.ensures keys start (view c.walk_event.new.seat) t c.walk_event.new.walk c.in-Some-found.first
    (subst (WalksOn keys start (view c.walk_event.new.seat) c.walk_event.new.walk t) c.in-Some-found.is on)

pub loop-here-smaller : goal.loop-here-smaller
loop-here-smaller g c =
    let e = c.next_missed-missed.ensures in
    let within = slice_get_within c.args.events.now c.next_missed-missed.new.walk.place c.in-Some.event (sym e.next ∙ c.in-Some.is) in
    let before = e.on in
    let on = c.in_ok-found.ensures.on c.in_default-found.is in
    omega (arith, within, before, on)

pub loop-here-preserved : goal.loop-here-preserved
loop-here-preserved g c =
    let keys = keys_of c.args.board.now in
    let t : List Event = c.args.events.now in
    let i = c.loop-here.invariant in
    let start = view c.args.seat.now in
    let old = view c.loop-here.seat in
    let new = view c.walk_event.new.seat in
    let e = c.next_missed-missed.ensures in
    let here_is = sym e.next ∙ c.in-Some.is in
    let follows = e.follows (on_board keys old) i.3 i.4 i.5.after in
    let before = IsWalking-along keys start old t c.loop-here.walk c.next_missed-missed.new.walk follows.1 i.5 in
    let next : ComesNext keys start old c.next_missed-missed.new.walk c.in-Some.event t = record { walking = before; here = here_is; below = c.requires.below } in
    let walking = subst (WalksOn keys start new c.walk_event.new.walk t) c.in_default-found.is (c.in_ok-found.ensures.walks_on start t next) in
    let within = slice_get_within t c.next_missed-missed.new.walk.place c.in-Some.event here_is in
    let place = c.in_ok-found.ensures.on c.in_default-found.is in
    let step = c.in_ok-found.ensures.step c.in_default-found.is in
    let same = AreKnown-same (on_board keys old) c.loop-here.known c.next_missed-missed.new.self e.states e.steps i.3 in
    let known = AreKnown-later (on_board keys old) (on_board keys new) c.next_missed-missed.new.self c.walk_event.ensures.keeps same in
    let here = subst (λ all. IfSome c.next_missed-missed.new.here (λ n. slice_get all.items n ≡ Some c.next_missed-missed.new.walk.state)) (sym e.states) follows.0 in (
      c.walk_event.ensures.seat,
      omega (arith, within, place),
      few_chains keys start new t c.walk_event.new.walk walking,
      c.learn-here.ensures.learns (on_board keys new) c.next_missed-missed.new.walk.state here step known,
      c.learn-here.ensures.there,
      walking,
    )

pub returns-clause-known : goal.returns-clause-known
returns-clause-known g c =
    let keys = keys_of c.args.board.now in
    on_ok c.walk_rest.result (AreKnown-later (on_board keys (view c.loop-here.seat)) (on_board keys (view c.walk_rest.new.seat)) c.loop-here.known c.walk_rest.ensures.keeps c.loop-here.invariant.3)

pub returns-clause-walked : goal.returns-clause-walked
returns-clause-walked g c = c.walk_rest.ensures.walked (view c.args.seat.now) c.loop-here.invariant.5
