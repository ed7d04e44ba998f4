use Rattle.ld_schedule.proofs.Names.{IsReplayed}
use Rattle.ld_schedule.proofs.replay.replay.Given as goal

abbrev pub invariant-loop-position : goal.invariant-loop-position
invariant-loop-position l = IsReplayed l.history.steps l.cut l.position l.kept.modes.items l.kept.takings.items
