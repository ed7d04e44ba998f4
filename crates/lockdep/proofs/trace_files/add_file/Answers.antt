use Rattle.lockdep.proofs.Names.{IfErr-weaker, arith, refl}
use Rattle.lockdep.proofs.ProgramLemmas.{StopsReading-one}
use Rattle.lockdep.proofs.trace_files.add_file.Goals as goal

pub returns-in-Ok-clause-err : goal.returns-in-Ok-clause-err
returns-in-Ok-clause-err g c = IfErr-weaker c.add_trace.result _ _ (StopsReading-one _ _ _ _) c.add_trace.ensures.err

pub returns-in-Err-clause-err : goal.returns-in-Err-clause-err
returns-in-Err-clause-err g c = (0, omega arith, refl)
