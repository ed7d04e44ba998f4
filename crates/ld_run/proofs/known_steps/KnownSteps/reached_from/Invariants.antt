use Rattle.ld_run.proofs.Names.{◌≤◌, Reaches}
use Rattle.ld_run.proofs.known_steps.KnownSteps.reached_from.Given as goal

-- known steps led this far
abbrev pub invariant-loop-place : goal.invariant-loop-place
invariant-loop-place l =
    (l.number ≤ l.place)
    × Reaches l.self l.events (record { place = l.start; state = l.from; number = l.chains }) (record { place = l.place; state = l.state; number = l.number })
