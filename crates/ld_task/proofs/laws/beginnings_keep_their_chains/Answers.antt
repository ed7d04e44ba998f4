use Rattle.ld_task.proofs.Beginnings.{beginnings_keep_their_chains}
use Rattle.ld_task.proofs.laws.beginnings_keep_their_chains.Goals as goal

pub returns : goal.returns
returns c = beginnings_keep_their_chains
