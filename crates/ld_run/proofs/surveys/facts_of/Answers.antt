use Rattle.ld_run.proofs.Settlements.{passed_err}
use Rattle.ld_run.proofs.surveys.facts_of.Goals as goal

pub returns-in_err-allow-clause-refused : goal.returns-in_err-allow-clause-refused
returns-in_err-allow-clause-refused g c = passed_err _ _ _ c.from_residual.ensures (c.in_err-allow.ensures.refused c.args.keys)

pub returns-clause-refused : goal.returns-clause-refused
returns-clause-refused g c = rw c.from.ensures at c.gathered.ensures.refused c.args.keys
