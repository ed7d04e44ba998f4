use Rattle.ld_task.proofs.Names.{IsStateAfter}
use Rattle.ld_task.proofs.trace.first_fault.Given as goal

-- the events so far are well formed, and the state is the one after them
abbrev pub invariant-loop-place : goal.invariant-loop-place
invariant-loop-place l = IsStateAfter l.events l.place l.state
