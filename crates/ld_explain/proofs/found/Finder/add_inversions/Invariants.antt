use Rattle.ld_explain.proofs.Names.{AddsThose, HasFact, IsInversion, flat_map, map, take}
use Rattle.ld_explain.proofs.found.Finder.add_inversions.Given as goal

-- those of the things so far
abbrev pub invariant-loop-irq : goal.invariant-loop-irq
invariant-loop-irq l = AddsThose (λ x. IsInversion (HasFact l.self.settled.now) x.0 x.1.0 x.1.1) (flat_map (λ irq. flat_map (λ a. map (λ b. (irq, (a, b))) l.self.keys.now) l.self.keys.now) (take l.irq-index l.irq-items)) l.initial.inversions.items l.inversions.items
