use Rattle.ld_task.proofs.TraceLaws.{chain_keys_are_the_traces}
use Rattle.ld_task.proofs.laws.chain_keys_are_the_traces.Goals as goal

pub returns : goal.returns
returns c = chain_keys_are_the_traces
