use Rattle.lockdep.proofs.Names.{ap, Err}
use Rattle.lockdep.proofs.verdicts.levels_of.Goals as goal

pub returns-in-Err-facts_of-clause-refused : goal.returns-in-Err-facts_of-clause-refused
returns-in-Err-facts_of-clause-refused g c = λ known format files.
    c.run_fault.ensures.verdicts c.args.workers _ known c.args.keys.now.names format files c.in-Err-facts_of.ensures.refused
    (λ is. c.in-Err-facts_of.ensures.no_graph.0 (ap Err is)) (λ is. c.in-Err-facts_of.ensures.no_graph.1 (ap Err is))
