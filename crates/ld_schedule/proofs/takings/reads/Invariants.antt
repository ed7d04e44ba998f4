use Rattle.ld_schedule.proofs.Names.{All, IsReading, take}
use Rattle.ld_schedule.proofs.takings.reads.Given as goal

abbrev pub invariant-loop-q : goal.invariant-loop-q
invariant-loop-q l = All (λ q. ¬ IsReading l.steps l.task q) (take l.q-index l.held)
