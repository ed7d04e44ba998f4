use Rattle.ld_schedule.proofs.Names.{AreGivings, AreTakings, NoneFaultyBefore}
use Rattle.ld_schedule.proofs.history.go_over.Given as goal

abbrev pub invariant-loop-position : goal.invariant-loop-position
invariant-loop-position l = record {
  none_faulty : NoneFaultyBefore l.steps l.position;
  takings_are : AreTakings l.steps l.position l.takings.open.items l.takings.releases.items;
  givings_are : AreGivings l.steps l.position l.givings;
}
