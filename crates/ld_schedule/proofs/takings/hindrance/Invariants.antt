use Rattle.ld_schedule.proofs.Names.{All, LeavesFree, take}
use Rattle.ld_schedule.proofs.takings.hindrance.Given as goal

abbrev pub invariant-loop-q : goal.invariant-loop-q
invariant-loop-q l = All (LeavesFree l.steps l.task l.mode) (take l.q-index l.held)
