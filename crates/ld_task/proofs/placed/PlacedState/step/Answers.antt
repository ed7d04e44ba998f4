use Rattle.ld_task.proofs.LockPlaces.{placed-does, placed-keeps}
use Rattle.ld_task.proofs.placed.PlacedState.step.Goals as goal

pub returns-clause-goes_on : goal.returns-clause-goes_on
returns-clause-goes_on c t is here = placed-does t c.args.place c.args.event here _ _ is _ c.advance.ensures

pub returns-clause-refused : goal.returns-clause-refused
returns-clause-refused c = placed-keeps _ _ _ _ _ c.advance.ensures
