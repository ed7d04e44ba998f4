use Rattle.lockdep.proofs.FaultLemmas.{StopsText-crew}
use Rattle.lockdep.proofs.program.write_session.Goals as goal

pub returns-in-Err-clause-err : goal.returns-in-Err-clause-err
returns-in-Err-clause-err g c = record {
  fault = c.in-Err.fault;
  stops = StopsText-crew _ _ _ c.useful_workers-workers.result c.args.request.workers _ _ c.useful_workers-workers.ensures.crew _ c.in-Err.ensures.refused;
  refusal_is = c.report_refusal.ensures;
}
