use Rattle.std.proofs.Common.{All, take}
use Rattle.ld_schedule.specs.Histories.{IsOf}
use Rattle.ld_schedule.proofs.judging.are_of.Given as goal

abbrev pub invariant-loop-position : goal.invariant-loop-position
invariant-loop-position l = All (IsOf l.steps l.task) (take l.position-index l.list)
