use Rattle.ld_schedule.proofs.Names.{Action, Does, IsAbout, IsAboutLock, IsOf, ℕ, ◌<◌}
use Rattle.ld_schedule.proofs.counts.Counts.of.Given as goal

abbrev pub invariant-loop-step : goal.invariant-loop-step
invariant-loop-step l = record {
  tasks : (p task : ℕ) → p < l.step-index → IsOf l.steps task p → task < l.tasks;
  locks : (p task : ℕ) (action : Action) (lock : ℕ) → p < l.step-index → Does l.steps p task action → IsAboutLock action lock → lock < l.locks;
  messages : (p task : ℕ) (action : Action) (message : ℕ) → p < l.step-index → Does l.steps p task action → IsAbout action message → message < l.messages;
}
