use Rattle.ld_trace.proofs.PieceLemmas.{headers-read}
use Rattle.ld_trace.proofs.laws.headers_read.Goals as goal

pub returns : goal.returns
returns c = record { read = headers-read }
