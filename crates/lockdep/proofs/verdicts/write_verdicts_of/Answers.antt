use Rattle.lockdep.proofs.ProgramLemmas.{IfErr-passed}
use Rattle.lockdep.proofs.verdicts.write_verdicts_of.Goals as goal

pub returns-in_err-levels-clause-refused : goal.returns-in_err-levels-clause-refused
returns-in_err-levels-clause-refused g c =
    IfErr-passed c.from_residual.result _ _ c.from_residual.ensures (c.in_err-levels.ensures.refused (g.W.Write.contents c.args.w.now) c.args.request.format _)
