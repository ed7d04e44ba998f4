use Rattle.ld_explain.proofs.Names.{AddsThose, HasFact, OnCircle, arrow, flat_map, kinds, map, take}
use Rattle.ld_explain.proofs.found.Finder.add_circles.Given as goal

-- those of the things so far
abbrev pub invariant-loop-from : goal.invariant-loop-from
invariant-loop-from l = AddsThose (OnCircle (HasFact l.self.settled.now)) (flat_map (λ from. flat_map (λ to. map (arrow from to) kinds) l.self.keys.now) (take l.from-index l.from-items)) l.initial.circles.items l.circles.items
