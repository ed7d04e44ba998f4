use Rattle.ld_run.proofs.Names.{◌≡◌, length}
use Rattle.ld_run.proofs.condensing.places_of.Given as goal

abbrev pub invariant-loop-place : goal.invariant-loop-place
invariant-loop-place l = length l.places.items ≡ l.keys
