use Rattle.ld_explain.proofs.Names.{ChoosesCircles, take}
use Rattle.ld_explain.proofs.choices.Choices.add_circles.Given as goal

-- circles are chosen for the dependencies so far
abbrev pub invariant-loop-d : goal.invariant-loop-d
invariant-loop-d l = ChoosesCircles l.settled (take l.d-index l.circles) l.self
