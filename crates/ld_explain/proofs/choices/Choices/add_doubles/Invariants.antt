use Rattle.ld_explain.proofs.Names.{AddsEach, HasFact, IsDoubleChoice, take}
use Rattle.ld_explain.proofs.choices.Choices.add_doubles.Given as goal

-- those of the doubles so far
abbrev pub invariant-loop-double : goal.invariant-loop-double
invariant-loop-double l = AddsEach l.settled (IsDoubleChoice (HasFact l.settled)) (take l.double-index l.doubles) l.initial.self l.self
