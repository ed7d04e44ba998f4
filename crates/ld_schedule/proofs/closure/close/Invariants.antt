use Rattle.ld_schedule.proofs.Names.{KeepsForced}
use Rattle.ld_schedule.proofs.closure.close.Given as goal

abbrev pub invariant-loop : goal.invariant-loop
invariant-loop l = KeepsForced l.order l.history l.initial.growth.cut.items l.growth.cut.items
