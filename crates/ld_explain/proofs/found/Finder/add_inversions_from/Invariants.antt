use Rattle.ld_explain.proofs.Names.{AddsThose, HasFact, IsInversion, map, take}
use Rattle.ld_explain.proofs.found.Finder.add_inversions_from.Given as goal

-- those of the things so far
abbrev pub invariant-loop-b : goal.invariant-loop-b
invariant-loop-b l = AddsThose (λ x. IsInversion (HasFact l.self.settled.now) x.0 x.1.0 x.1.1) (map (λ b. (l.irq, (l.a, b))) (take l.b-index l.b-items)) l.initial.inversions.items l.inversions.items
