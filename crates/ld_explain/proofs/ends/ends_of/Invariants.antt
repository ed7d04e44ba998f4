use Rattle.ld_explain.proofs.Names.{AreThose, All, map}
use Rattle.ld_explain.specs.Found.{numbers_below}
use Rattle.ld_explain.specs.Whereabouts.{HoldsAtEnd, IsEnd}
use Rattle.ld_explain.proofs.ends.ends_of.Given as goal

-- the ends of the traces so far
abbrev pub invariant-loop-i : goal.invariant-loop-i
invariant-loop-i l = AreThose (HoldsAtEnd l.traces) (numbers_below l.i) (map (λ e. e.trace) l.ends.items) × All (IsEnd l.traces) l.ends.items
