use Rattle.ld_run.proofs.Names.{◌*◌, ◌≡◌, ◌≤◌, MAX_EVENTS, count_by, makes_chain, sum_by, take}
use Rattle.ld_run.proofs.runs.chain_count.Given as goal

-- the traces so far were counted
abbrev pub invariant-loop-trace : goal.invariant-loop-trace
invariant-loop-trace l = (l.count ≡ sum_by (count_by makes_chain) (take l.trace-index l.traces)) × (l.count ≤ l.trace-index * MAX_EVENTS)
