use Rattle.ld_parts.proofs.Names.{refl}
use Rattle.ld_parts.proofs.part.Part.shortest_circle.Goals as goal

pub returns-in_err-circle-clause-none : goal.returns-in_err-circle-clause-none
returns-in_err-circle-clause-none c = λ _. c.in_err-circle.ensures.none.0 refl
