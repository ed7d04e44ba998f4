use Rattle.ld_schedule.proofs.history.History.lock_count.Goals as goal

pub returns : goal.returns
returns c = rw (← c.self.view_is) c.self.invariant.locks_below
