use Rattle.ld_read.proofs.Names.{[], ◌++◌, ◌∙◌, ◌∷◌, All, All-set, AreFrom, IsAhead, None, ap, arith, length}
use Rattle.ld_read.proofs.AheadLemmas.{all-ahead-longer, none-known}
use Rattle.ld_read.proofs.taking.take_in_next.Goals as goal

pub returns-then-has_next-clause-aheads : goal.returns-then-has_next-clause-aheads
returns-then-has_next-clause-aheads c = λ e.
    let kept = c.loop-ahead.invariant in
    let all = rw (← kept.0, ← kept.1) at c.requires in
    let read = (c.take_in.ensures.taken e).2 (λ place. None) (none-known c.loop-ahead.aheads c.loop-ahead.ahead-index c.ahead-item.result (omega (arith, c.loop-ahead-test.true, ap length kept.0))) in
    All-set (IsAhead c.take_in.new.keys.names) c.loop-ahead.aheads c.loop-ahead.ahead-index c.take_in.new.self (c.take_in.ensures.ahead e)
    (rw read.kept.1 (all-ahead-longer c.renumberings_stay.ensures.stay c.loop-ahead.keys.names read.kept.0 c.loop-ahead.aheads all))

pub returns-then-has_next-clause-taken : goal.returns-then-has_next-clause-taken
returns-then-has_next-clause-taken c = λ e.
    let kept = c.loop-ahead.invariant in
    let taken = c.take_in.ensures.taken e in (
      taken.0,
      taken.1 ∙ ap (λ t. t.items ++ taken.0 ∷ []) kept.2,
      λ holds from.
          let all : All (AreFrom holds) c.loop-ahead.aheads = rw kept.0 from in
          rw (ap (λ k. k.room) kept.1, ap (λ k. k.names) kept.1) at (taken.2 holds (all c.loop-ahead.ahead-index c.ahead-item.result (omega (arith, c.loop-ahead-test.true, ap length kept.0)))),
    )
