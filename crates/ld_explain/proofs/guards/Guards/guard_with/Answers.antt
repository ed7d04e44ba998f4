use Rattle.ld_explain.proofs.Names.{inl, inr, refl}
use Rattle.ld_explain.proofs.guards.Guards.guard_with.Goals as goal

pub returns-in-Some : goal.returns-in-Some
returns-in-Some c = inr (c.in-Some.guard.now, c.in-Some.ensures.some, c.narrowed.ensures)

pub returns-in-None : goal.returns-in-None
returns-in-None c = inl (c.in-None.ensures.none refl, c.first.ensures)
