use Rattle.ld_schedule.proofs.Names.{All, IsOf, take}
use Rattle.ld_schedule.proofs.takings.place_of.Given as goal

abbrev pub invariant-loop-i : goal.invariant-loop-i
invariant-loop-i l = All (λ q. ¬ IsOf l.steps l.task q) (take l.i l.held)
