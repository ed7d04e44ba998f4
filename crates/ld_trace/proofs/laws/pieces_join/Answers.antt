use Rattle.ld_trace.proofs.PieceLemmas.{pieces-join}
use Rattle.ld_trace.proofs.laws.pieces_join.Goals as goal

pub returns : goal.returns
returns c = record { join = pieces-join }
