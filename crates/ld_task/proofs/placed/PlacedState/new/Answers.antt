use Rattle.ld_task.proofs.Names.{refl}
use Rattle.ld_task.specs.Positions.{positions_below}
use Rattle.ld_task.specs.EndState.{state_at}
use Rattle.ld_task.proofs.placed.PlacedState.new.Goals as goal

pub invariant_of-result : goal.invariant_of-result
unfolding state_at positions_below
invariant_of-result c = rw (c.new.ensures.empty, c.new-2.ensures) refl

pub returns : goal.returns
unfolding positions_below
returns c t = record { state = c.new.ensures.start t; places = c.new-2.ensures }
