use Rattle.ld_schedule.proofs.history.History.len.Goals as goal

pub returns-clause-well_formed : goal.returns-clause-well_formed
returns-clause-well_formed c = rw (← c.self.view_is) c.self.invariant.well_formed
