use Rattle.ld_schedule.proofs.Names.{KeepsForcedFor, lists_of}
use Rattle.ld_schedule.proofs.ring.close_for.Given as goal

abbrev pub invariant-loop : goal.invariant-loop
invariant-loop l = KeepsForcedFor l.order l.history (lists_of l.ring) l.initial.growth.cut.items l.growth.cut.items
