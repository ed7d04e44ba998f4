use Rattle.ld_schedule.proofs.Names.{KeepsForced}
use Rattle.ld_schedule.proofs.closure.settle_with.Given as goal

abbrev pub invariant-loop-reader : goal.invariant-loop-reader
invariant-loop-reader l = KeepsForced l.order l.history l.initial.growth.cut.items l.growth.cut.items
