use Rattle.ld_run.proofs.Names.{◌≡◌}
use Rattle.ld_run.proofs.known_steps.KnownSteps.number_of.Given as goal

-- nothing was added so far
abbrev pub invariant-loop-look : goal.invariant-loop-look
invariant-loop-look l = (l.self.states ≡ l.fn.self.states) × (l.self.steps ≡ l.fn.self.steps)
