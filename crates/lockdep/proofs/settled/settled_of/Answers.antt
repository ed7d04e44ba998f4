use Rattle.lockdep.proofs.Names.{StopsRun, subst}
use Rattle.lockdep.proofs.settled.settled_of.Goals as goal

pub returns-in-Err-clause-refused : goal.returns-in-Err-clause-refused
returns-in-Err-clause-refused g c = λ known output.
    c.run_fault.ensures.text c.args.workers known c.args.keys.now.names output
    (subst (λ keys. StopsRun c.args.traces.now keys c.args.workers c.in-Err.fault) c.len.ensures.count c.in-Err.ensures.refused)
