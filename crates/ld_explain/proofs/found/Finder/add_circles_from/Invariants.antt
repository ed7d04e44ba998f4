use Rattle.ld_explain.proofs.Names.{AddsThose, HasFact, OnCircle, arrow, flat_map, kinds, map, take}
use Rattle.ld_explain.proofs.found.Finder.add_circles_from.Given as goal

-- those of the things so far
abbrev pub invariant-loop-to : goal.invariant-loop-to
invariant-loop-to l = AddsThose (OnCircle (HasFact l.self.settled.now)) (flat_map (λ to. map (arrow l.from to) kinds) (take l.to-index l.to-items)) l.initial.circles.items l.circles.items
