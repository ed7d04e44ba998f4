use Rattle.ld_explain.proofs.Names.{AddsThose, HasFact, IsDouble, map, take}
use Rattle.ld_explain.proofs.found.Finder.add_doubles_of.Given as goal

-- those of the things so far
abbrev pub invariant-loop-key : goal.invariant-loop-key
invariant-loop-key l = AddsThose (λ x. IsDouble (HasFact l.self.settled.now) x.0 x.1) (map (λ key. (l.irq, key)) (take l.key-index l.key-items)) l.initial.doubles.items l.doubles.items
