use Rattle.ld_task.proofs.Names.{chain_eq-decides}
use Rattle.ld_task.proofs.laws.equal_chains_have_equal_parts.Goals as goal

pub returns : goal.returns
returns c = chain_eq-decides
