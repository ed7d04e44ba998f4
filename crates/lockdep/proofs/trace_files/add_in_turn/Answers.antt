use Rattle.lockdep.proofs.ProgramLemmas.{IfErr-passed, StopsReading-among, named_at}
use Rattle.lockdep.proofs.trace_files.add_in_turn.Goals as goal

pub returns-in_err-add_file-clause-err : goal.returns-in_err-add_file-clause-err
returns-in_err-add_file-clause-err g c = λ input. IfErr-passed c.from_residual.result _ _ c.from_residual.ensures
    (StopsReading-among _ _ _ input _ (named_at c.args.files.now c.loop-file.file-index _ c.loop-file-test.true) c.in_err-add_file.ensures.err)
