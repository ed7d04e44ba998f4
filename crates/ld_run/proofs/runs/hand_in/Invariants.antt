use Rattle.ld_run.proofs.Names.{◌++◌, ◌≡◌, All, Event, HasDrawn, IsFalse, LeastRefusedIs, List, SomeHasDrawn, Worked, map, vec_capacity}
use Rattle.ld_run.proofs.runs.hand_in.Given as goal

-- the seats of the workers so far come after the others, and none of these workers was lost
abbrev pub invariant-loop-worked : goal.invariant-loop-worked
invariant-loop-worked l =
    (goal.iterator-loop-worked).can_next l.worked-iterator
    × (goal.iterator-loop-worked).is_finite l.worked-iterator
    × (l.back.items ≡ l.initial.back.items ++ map (λ (w : Worked). w.seat) l.yielded)
    × (vec_capacity l.back ≡ vec_capacity l.initial.back)
    × All (λ w. IsFalse w.lost) l.yielded
    × ((traces : List (List Event)) → All (λ w. LeastRefusedIs traces (HasDrawn w) w.refused) l.yielded → LeastRefusedIs traces (SomeHasDrawn l.yielded) l.refused)
