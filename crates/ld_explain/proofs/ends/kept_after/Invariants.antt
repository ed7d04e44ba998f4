use Rattle.ld_explain.proofs.Names.{IsPlacedAfter}
use Rattle.ld_explain.proofs.ends.kept_after.Given as goal

-- the state after the events so far
abbrev pub invariant-loop-place : goal.invariant-loop-place
invariant-loop-place l = IsPlacedAfter l.trace l.place l.state
