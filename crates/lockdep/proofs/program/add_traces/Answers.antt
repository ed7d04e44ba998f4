use Rattle.lockdep.proofs.Names.{IfErr-weaker}
use Rattle.lockdep.proofs.ProgramLemmas.{StopsReading-input, none_named}
use Rattle.lockdep.proofs.program.add_traces.Goals as goal

pub returns-then-is_empty-clause-err : goal.returns-then-is_empty-clause-err
returns-then-is_empty-clause-err g c = IfErr-weaker c.add_trace.result _ _
    (λ refusal why. StopsReading-input _ _ _ refusal (none_named c.args.files.now c.if-is_empty.ensures) (rw c.requires.no_names at why))
    c.add_trace.ensures.err

pub returns-clause-err : goal.returns-clause-err
returns-clause-err g c = c.add_files.ensures.err _
