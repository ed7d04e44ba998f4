use Rattle.ld_trace.proofs.TakenIn.{renumberings-stay}
use Rattle.ld_trace.proofs.laws.renumberings_stay.Goals as goal

pub returns : goal.returns
returns c = record { stay = renumberings-stay }
