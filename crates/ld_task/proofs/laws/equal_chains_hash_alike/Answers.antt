use Rattle.ld_task.proofs.Names.{chain_eq-decides}
use Rattle.std.specs.Hash.{same_Alike}
use Rattle.ld_task.proofs.laws.equal_chains_hash_alike.Goals as goal

pub returns : goal.returns
returns c = (same_Alike _ chain_eq-decides).fed
