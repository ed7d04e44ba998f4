use Rattle.ld_trace.proofs.Names.{arith, event_with}
use Rattle.ld_trace.proofs.TakenIn.{all-renumbered}
use Rattle.ld_trace.proofs.raw_trace.renumber.Goals as goal

pub returns : goal.returns
returns c =
    all-renumbered (event_with c.args.numbers.now) c.args.events.now c.loop-event.events c.loop-event.auto.events
    (λ k lt. c.loop-event.invariant.0 k (omega (arith, lt, c.loop-event-test.false)))
