use Rattle.ld_explain.proofs.Names.{AddsEach, HasFact, IsInversionChoice, take}
use Rattle.ld_explain.proofs.choices.Choices.add_inversions.Given as goal

-- those of the inversions so far
abbrev pub invariant-loop-inversion : goal.invariant-loop-inversion
invariant-loop-inversion l = AddsEach l.settled (IsInversionChoice (HasFact l.settled)) (take l.inversion-index l.inversions) l.initial.self l.self
