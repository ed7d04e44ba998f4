use Rattle.ld_run.proofs.Settlements.{passed_err}
use Rattle.ld_run.proofs.surveys.survey.Goals as goal

pub returns-in_err-facts-clause-refused : goal.returns-in_err-facts-clause-refused
returns-in_err-facts-clause-refused g c = passed_err _ _ _ c.from_residual.ensures (c.in_err-facts.ensures.refused c.args.keys)
