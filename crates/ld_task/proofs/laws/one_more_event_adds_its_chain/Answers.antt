use Rattle.ld_task.proofs.ChainLists.{chains-snoc}
use Rattle.ld_task.proofs.laws.one_more_event_adds_its_chain.Goals as goal

pub returns : goal.returns
returns c = chains-snoc
