use Rattle.ld_text.proofs.Names.{IsFirstBest, starts_before}
use Rattle.ld_text.proofs.because.least_start.Given as goal

-- the least so far
abbrev pub invariant-loop-i : goal.invariant-loop-i
invariant-loop-i l = IsFirstBest (starts_before l.names.names) l.circle l.i l.least
