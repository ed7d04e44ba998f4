use Rattle.ld_schedule.proofs.Names.{arith, ◌+◌, ◌-◌, ◌/◌}
use Rattle.ld_schedule.proofs.RingClosings.{ascends}
use Rattle.ld_schedule.proofs.ring.place_after.Goals as goal

pub loop-low-preserved-then-list-middle : goal.loop-low-preserved-then-list-middle
loop-low-preserved-then-list-middle c =
    let i = c.loop-low.invariant in
    record {
      ordered = omega arith;
      within = i.within;
      lower = λ k below.
          let upto = ascends c.args.list.now k (c.loop-low.low + (c.loop-low.high - c.loop-low.low) / 2) c.requires (omega arith) (omega arith) in
          omega arith;
      upper = i.upper;
    }

pub loop-low-preserved : goal.loop-low-preserved
loop-low-preserved c =
    let i = c.loop-low.invariant in
    record {
      ordered = omega arith;
      within = omega arith;
      lower = i.lower;
      upper = λ k past within.
          let upto = ascends c.args.list.now (c.loop-low.low + (c.loop-low.high - c.loop-low.low) / 2) k c.requires past within in
          omega arith;
    }
