use Rattle.lockdep.proofs.Names.{Ok, arith}
use Rattle.lockdep.proofs.program.run_program.Goals as goal

pub returns-in-Ok-clause-run : goal.returns-in-Ok-clause-run
returns-in-Ok-clause-run g c = record {
  few = c.in-Ok.ensures.status;
  done = c.in-Ok.ensures.done;
  refused = λ two. let (refusal, refuses, told) = c.in-Ok.ensures.refused two in (refusal, refuses, (Ok c.in-Ok.status, told));
}

pub returns-in-Err-clause-run : goal.returns-in-Err-clause-run
returns-in-Err-clause-run g c = record {
  few = omega arith;
  done = λ less. absurd (omega (arith, less));
  refused = λ two. let (refusal, refuses, told) = c.in-Err.ensures.untold in (refusal, refuses, (_, told));
}
