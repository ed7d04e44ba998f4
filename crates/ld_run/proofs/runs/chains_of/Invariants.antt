use Rattle.ld_run.proofs.Names.{◌≡◌, ◌≤◌, count_by, makes_chain, take}
use Rattle.ld_run.proofs.runs.chains_of.Given as goal

-- the events so far were counted
abbrev pub invariant-loop-place : goal.invariant-loop-place
invariant-loop-place l = (l.count ≡ count_by makes_chain (take l.place l.trace)) × (l.count ≤ l.place)
