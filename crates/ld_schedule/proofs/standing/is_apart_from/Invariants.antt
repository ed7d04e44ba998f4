use Rattle.ld_schedule.proofs.Names.{All, IsOf, take}
use Rattle.ld_schedule.proofs.standing.is_apart_from.Given as goal

abbrev pub invariant-loop-q : goal.invariant-loop-q
invariant-loop-q l = All (λ q. ¬ IsOf l.history.steps l.task q) (take l.q-index l.others)
