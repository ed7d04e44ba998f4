use Rattle.ld_explain.proofs.Names.{AddsThose, HasFact, IsDouble, flat_map, map, take}
use Rattle.ld_explain.proofs.found.Finder.add_doubles.Given as goal

-- those of the things so far
abbrev pub invariant-loop-irq : goal.invariant-loop-irq
invariant-loop-irq l = AddsThose (λ x. IsDouble (HasFact l.self.settled.now) x.0 x.1) (flat_map (λ irq. map (λ key. (irq, key)) l.self.keys.now) (take l.irq-index l.irq-items)) l.initial.doubles.items l.doubles.items
