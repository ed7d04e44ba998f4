use Rattle.lockdep.proofs.Names.{Err, Keeps-refl, Types, ap, arith, length, names_at}
use Rattle.lockdep.proofs.TypeLemmas.{stops-parting}
use Rattle.lockdep.proofs.verdicts.types_of.Goals as goal

pub returns-in-Err-clause-refused : goal.returns-in-Err-clause-refused
returns-in-Err-clause-refused g c = λ known format files.
    c.run_fault.ensures.verdicts c.args.workers _ known c.args.keys.now.names format files c.in-Err.ensures.refused
    (λ is. c.in-Err.ensures.no_graph.0 (ap Err is)) (λ is. c.in-Err.ensures.no_graph.1 (ap Err is))

pub returns-in-Err-of-clause-refused : goal.returns-in-Err-of-clause-refused
returns-in-Err-of-clause-refused g c = λ known format files.
    let run = c.in-Ok.ensures.ok in (
      rw c.fault_of_parting.ensures
          (stops-parting c.args.traces.now c.args.keys.now.names c.args.workers c.in-Err-of.fault run.crew run.few run.well_formed
          (λ is. omega (arith, c.in-Err-of.ensures.tangled (ap Err is), c.in-Ok.ensures.keys, ap length c.in-Ok.ensures.names))),
      Keeps-refl known,
    )
