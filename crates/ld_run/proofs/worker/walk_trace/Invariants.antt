use Rattle.ld_run.proofs.Names.{◌-◌, ◌≡◌, ◌≤◌, AreKnown, IfSome, IsSeatOf, IsWalking, Some, keys_of, length, on_board, slice_get, view}
use Rattle.ld_run.proofs.worker.walk_trace.Given as goal

-- the events so far were walked, what is known of steps is known, and the state has the number, if there is one
abbrev pub invariant-loop-here : goal.invariant-loop-here
invariant-loop-here g l =
    IsSeatOf l.board l.seat × (l.walk.place ≤ length l.events) × (l.walk.number ≤ l.walk.place)
    × AreKnown (on_board (keys_of l.board) (view l.seat)) l.known
    × IfSome l.here (λ n. slice_get l.known.states.items n ≡ Some l.walk.state)
    × IsWalking (keys_of l.board) (view l.fn.seat) (view l.seat) l.events l.walk

abbrev pub decreases-loop-here : goal.decreases-loop-here
decreases-loop-here g l = length l.events - l.walk.place
