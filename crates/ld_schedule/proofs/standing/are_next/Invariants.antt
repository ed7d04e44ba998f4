use Rattle.ld_schedule.proofs.Names.{All, IsNext, below, take}
use Rattle.ld_schedule.proofs.standing.are_next.Given as goal

abbrev pub invariant-loop-p : goal.invariant-loop-p
invariant-loop-p l = All (IsNext l.history.steps (below l.history.steps l.cut)) (take l.p-index l.ring)
