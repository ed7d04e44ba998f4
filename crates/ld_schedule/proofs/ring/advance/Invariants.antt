use Rattle.ld_schedule.proofs.Names.{KeepsForcedFor, lists_of}
use Rattle.ld_schedule.proofs.ring.advance.Given as goal

abbrev pub invariant-loop-k : goal.invariant-loop-k
invariant-loop-k l = KeepsForcedFor l.order l.history (lists_of l.ring) l.initial.growth.cut.items l.growth.cut.items
