use Rattle.ld_read.proofs.Names.{IsFrom, IsPart}
use Rattle.ld_read.proofs.AheadLemmas.{all-head, all-tail, if-some}
use Rattle.ld_read.proofs.ahead.Ahead.take_in.Goals as goal

pub returns-in-Ok-clause-ahead : goal.returns-in-Ok-clause-ahead
returns-in-Ok-clause-ahead c = λ _.
    record { leads = c.in-Ok.ensures.leads; parts = all-tail (IsPart c.args.self.now.own.names) c.in-Some.part c.pop_front.new.self.items (rw c.in-Some.ensures.items at c.requires.parts) }

pub returns-in-Ok-clause-from : goal.returns-in-Ok-clause-from
returns-in-Ok-clause-from c = λ holds from.
    all-tail (IsFrom holds c.args.self.now.own.names) c.in-Some.part c.pop_front.new.self.items (rw c.in-Some.ensures.items at from)

pub returns-in-Ok-clause-taken : goal.returns-in-Ok-clause-taken
returns-in-Ok-clause-taken c = λ _. (
  c.in-Ok.trace,
  rw c.reserve.ensures.items at c.push_reserved.ensures.items,
  λ holds from.
      let first = all-head (IsFrom holds c.args.self.now.own.names) c.in-Some.part c.pop_front.new.self.items (rw c.in-Some.ensures.items at from) in
      record {
        kept = c.in-Ok.ensures.kept;
        below = c.in-Ok.ensures.below;
        reads = rw (← c.if-part-place.false) (if-some (holds c.in-Some.part.place) _ _ (λ bytes read. c.in-Ok.ensures.reads read.0 bytes (rw (c.if-part-len.false, c.len.ensures) at read.1)) first);
      },
)

pub returns-in-Err-clause-from : goal.returns-in-Err-clause-from
returns-in-Err-clause-from c = λ holds from.
    all-tail (IsFrom holds c.args.self.now.own.names) c.in-Some.part c.pop_front.new.self.items (rw c.in-Some.ensures.items at from)
