use Rattle.ld_task.proofs.TraceLaws.{turning_on_turns_on}
use Rattle.ld_task.proofs.laws.turning_on_turns_on.Goals as goal

pub returns : goal.returns
returns c = turning_on_turns_on
