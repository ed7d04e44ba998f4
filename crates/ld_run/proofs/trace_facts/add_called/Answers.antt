use Rattle.ld_run.proofs.trace_facts.add_called.Goals as goal

pub returns-in-None-clause-adds : goal.returns-in-None-clause-adds
returns-in-None-clause-adds c = rw c.in-None.is c.add_chain.ensures.adds

pub returns-in-Some-clause-adds : goal.returns-in-Some-clause-adds
returns-in-Some-clause-adds c = rw c.in-Some.is c.add_chain_by.ensures.adds
