use Rattle.ld_explain.proofs.Names.{AddsThose, HasFact, OnCircle, arrow, map, take}
use Rattle.ld_explain.proofs.found.Finder.add_circles_to.Given as goal

-- those of the things so far
abbrev pub invariant-loop-kind : goal.invariant-loop-kind
invariant-loop-kind l = AddsThose (OnCircle (HasFact l.self.settled.now)) (map (arrow l.from l.to) (take l.kind-index l.kind-items)) l.initial.circles.items l.circles.items
