use Rattle.ld_read.proofs.Names.{arith, refl}
use Rattle.ld_trace.specs.Reading.{names_after}
use Rattle.ld_read.proofs.in_turn.no_room.Goals as goal

pub returns-clause-stops : goal.returns-clause-stops
unfolding names_after
returns-clause-stops c = λ room names bytes. record { place = 0; number = refl; here = λ e. cc; before = λ i early. absurd (omega arith); names = refl }
