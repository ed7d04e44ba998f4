use Rattle.ld_task.proofs.Names.{◌≡◌, drop, places_at, slice_get}
use Rattle.ld_task.proofs.kept_locks.place_at.Given as goal

-- what is searched for among all is what is left to find among the rest
abbrev pub invariant-loop-i : goal.invariant-loop-i
invariant-loop-i l =
    slice_get (places_at l.level l.kept-items l.places.items) l.n
    ≡ slice_get (places_at l.level (drop l.i l.kept-items) (drop l.i l.places.items)) l.left
