use Rattle.ld_run.proofs.Names.{◌+◌, ◌∙◌, Ok, WalksOn, ap, arith, keys_of, makes_chain, refl, subst, sym, view}
use Rattle.ld_run.specs.declared.known_steps.Walk.{Walk}
use Rattle.ld_run.proofs.Walking.{IsWalking-next, chain_below, made-none, made-some, none_in, walks_on-chain, walks_on-none}
use Rattle.ld_run.proofs.worker.walk_event.Goals as goal

pub put_unless_covered-requires-clause-below : goal.put_unless_covered-requires-clause-below
put_unless_covered-requires-clause-below g c =
    let (start, t, next) = c.requires.next in
    chain_below c.chain_keys_are_the_traces.ensures (keys_of c.args.board.now) t c.args.walk.now.place c.step.new.self c.step.result c.in-Some.chain (c.in-Ok.is ∙ ap Ok c.in-Some.is)
    (c.step.ensures.goes_on t c.args.walk.now.place next.walking.after next.here) next.below

pub returns-in_err-record_chain-in-Ok-clause-walks_on : goal.returns-in_err-record_chain-in-Ok-clause-walks_on
returns-in_err-record_chain-in-Ok-clause-walks_on g c = λ start t next.
    let keys = keys_of c.args.board.now in
    let new = view c.put_unless_covered.new.seat in
    let old : Walk = c.args.walk.now in
    let walk : Walk = record { place = old.place + 1; state = c.step.new.self; number = old.number + 1 } in
    let e = c.put_unless_covered.ensures in
    let made = made-some (makes_chain c.args.event) c.in-Ok.answer c.in-Some.chain c.in-Ok.ensures.answers c.in-Some.is in
    subst (WalksOn keys start new walk t) (sym (none_in c.from_residual.result c.from_residual.ensures.0))
    (IsWalking-next keys start (view c.args.seat.now) new t old walk c.args.event next.walking next.here refl (ap (λ n. old.number + n) (sym made))
    (walks_on-chain keys start (view c.args.seat.now) new t old.place c.step.new.self c.step.result c.in-Some.chain (c.in-Ok.is ∙ ap Ok c.in-Some.is) (c.step.ensures.goes_on t old.place next.walking.after next.here) e.claimed e.puts
    e.knows next.walking.gathered))

pub returns-in_ok-record_chain-in-Ok-clause-walks_on : goal.returns-in_ok-record_chain-in-Ok-clause-walks_on
returns-in_ok-record_chain-in-Ok-clause-walks_on g c = λ start t next.
    let keys = keys_of c.args.board.now in
    let new = view c.put_unless_covered.new.seat in
    let old : Walk = c.args.walk.now in
    let walk : Walk = record { place = old.place + 1; state = c.step.new.self; number = old.number + 1 } in
    let e = c.put_unless_covered.ensures in
    let made = made-some (makes_chain c.args.event) c.in-Ok.answer c.in-Some.chain c.in-Ok.ensures.answers c.in-Some.is in
    IsWalking-next keys start (view c.args.seat.now) new t old walk c.args.event next.walking next.here refl (ap (λ n. old.number + n) (sym made))
    (walks_on-chain keys start (view c.args.seat.now) new t old.place c.step.new.self c.step.result c.in-Some.chain (c.in-Ok.is ∙ ap Ok c.in-Some.is) (c.step.ensures.goes_on t old.place next.walking.after next.here) e.claimed e.puts
    e.knows next.walking.gathered)

pub returns-else-put_unless_covered-clause-walks_on : goal.returns-else-put_unless_covered-clause-walks_on
returns-else-put_unless_covered-clause-walks_on g c = λ start t next.
    let keys = keys_of c.args.board.now in
    let new = view c.put_unless_covered.new.seat in
    let old : Walk = c.args.walk.now in
    let walk : Walk = record { place = old.place + 1; state = c.step.new.self; number = old.number + 1 } in
    let e = c.put_unless_covered.ensures in
    let made = made-some (makes_chain c.args.event) c.in-Ok.answer c.in-Some.chain c.in-Ok.ensures.answers c.in-Some.is in
    IsWalking-next keys start (view c.args.seat.now) new t old walk c.args.event next.walking next.here refl (ap (λ n. old.number + n) (sym made))
    (walks_on-chain keys start (view c.args.seat.now) new t old.place c.step.new.self c.step.result c.in-Some.chain (c.in-Ok.is ∙ ap Ok c.in-Some.is) (c.step.ensures.goes_on t old.place next.walking.after next.here) e.claimed e.puts
    e.knows next.walking.gathered)

pub returns-in_default-clause-walks_on : goal.returns-in_default-clause-walks_on
returns-in_default-clause-walks_on g c = λ start t next.
    let keys = keys_of c.args.board.now in
    let now = view c.args.seat.now in
    let old : Walk = c.args.walk.now in
    let walk : Walk = record { place = old.place + 1; state = c.step.new.self; number = old.number } in
    let made = made-none (makes_chain c.args.event) c.in-Ok.answer c.in-Ok.ensures.answers c.in_default.is in
    IsWalking-next keys start now now t old walk c.args.event next.walking next.here refl (omega (arith, made))
    (walks_on-none keys start now t old.place c.step.new.self c.step.result (c.in-Ok.is ∙ ap Ok c.in_default.is) (c.step.ensures.goes_on t old.place next.walking.after next.here) next.walking.gathered)
