use Rattle.ld_trace.proofs.ReadBack.{new-tables-have-room, texts-read-back, texts-read-themselves}
use Rattle.ld_trace.proofs.laws.written_traces_read_back.Goals as goal

pub returns-clause-any : goal.returns-clause-any
returns-clause-any c = texts-read-back

pub returns-clause-new : goal.returns-clause-new
returns-clause-new c = new-tables-have-room

pub returns-clause-same : goal.returns-clause-same
returns-clause-same c = texts-read-themselves
