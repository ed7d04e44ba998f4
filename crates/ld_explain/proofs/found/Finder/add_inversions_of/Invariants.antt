use Rattle.ld_explain.proofs.Names.{AddsThose, HasFact, IsInversion, flat_map, map, take}
use Rattle.ld_explain.proofs.found.Finder.add_inversions_of.Given as goal

-- those of the things so far
abbrev pub invariant-loop-a : goal.invariant-loop-a
invariant-loop-a l = AddsThose (λ x. IsInversion (HasFact l.self.settled.now) x.0 x.1.0 x.1.1) (flat_map (λ a. map (λ b. (l.irq, (a, b))) l.self.keys.now) (take l.a-index l.a-items)) l.initial.inversions.items l.inversions.items
