use Rattle.ld_task.proofs.Beginnings.{beginnings_keep_their_faults}
use Rattle.ld_task.proofs.laws.beginnings_keep_their_faults.Goals as goal

pub returns : goal.returns
returns c = beginnings_keep_their_faults
