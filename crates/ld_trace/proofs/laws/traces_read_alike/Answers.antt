use Rattle.ld_trace.proofs.Alike.{traces-read-alike}
use Rattle.ld_trace.proofs.laws.traces_read_alike.Goals as goal

pub returns : goal.returns
returns c = record { alike = traces-read-alike }
