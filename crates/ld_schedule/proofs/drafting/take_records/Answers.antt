use Rattle.std.proofs.Common.{◌+◌, ◌≡◌, arith, suc}
use Rattle.ld_schedule.proofs.drafting.take_records.Goals as goal

pub records-preserved : goal.records-preserved
records-preserved g c =
    let more = c.in-Ok-true.ensures.more c.in-Ok-true.field-0-test in
    let next : c.records.count + 1 ≡ suc c.records.count = omega arith in
    record {
      plain = c.in-Ok-true.ensures.plain;
      few = omega (arith, more.0);
      taken = λ known had. rw next (more.1 known (c.records.invariant.taken known had));
    }
