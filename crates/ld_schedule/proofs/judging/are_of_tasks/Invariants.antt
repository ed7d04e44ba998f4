use Rattle.std.proofs.Common.{All, take}
use Rattle.ld_schedule.specs.Decisions.{AreOfOneTask, lists_of}
use Rattle.ld_schedule.proofs.judging.are_of_tasks.Given as goal

abbrev pub invariant-loop-list : goal.invariant-loop-list
invariant-loop-list l = All (AreOfOneTask l.steps) (lists_of (take l.list-index l.ring))
