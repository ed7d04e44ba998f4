use Rattle.ld_schedule.proofs.Names.{arith}
use Rattle.ld_schedule.proofs.standing.stands_still.Goals as goal

pub returns-then-waits_along : goal.returns-then-waits_along
returns-then-waits_along c waits = record {
  long = omega arith;
  apart = c.are_apart.ensures c.if-not-are_apart.false;
  next = c.are_next.ensures c.if-not-are_next.false;
  waits = c.waits_along.ensures c.if-waits_along.true;
  closed = c.waits_for.ensures waits;
}
