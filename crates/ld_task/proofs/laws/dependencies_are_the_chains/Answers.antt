use Rattle.ld_task.proofs.FactLaws.{dependencies_are_the_chains}
use Rattle.ld_task.proofs.laws.dependencies_are_the_chains.Goals as goal

pub returns : goal.returns
returns c = dependencies_are_the_chains
