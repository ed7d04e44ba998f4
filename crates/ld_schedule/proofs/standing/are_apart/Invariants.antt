use Rattle.ld_schedule.proofs.Names.{AreApart, get_or, length, ℕ, ◌<◌}
use Rattle.ld_schedule.proofs.standing.are_apart.Given as goal

abbrev pub invariant-loop-i : goal.invariant-loop-i
invariant-loop-i l = (i j d : ℕ) → i < l.i → i < j → j < length l.ring → AreApart l.history.steps (get_or l.ring i d) (get_or l.ring j d)
