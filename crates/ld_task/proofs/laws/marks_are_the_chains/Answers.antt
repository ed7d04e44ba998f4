use Rattle.ld_task.proofs.FactLaws.{marks_are_the_chains}
use Rattle.ld_task.proofs.laws.marks_are_the_chains.Goals as goal

pub returns : goal.returns
returns c = marks_are_the_chains
