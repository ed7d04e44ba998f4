use Rattle.ld_run.proofs.Names.{◌-◌, ◌≤◌, Holds, IsSeatOf, IsWalking, KnowsFact, View, keys_of, length, view}
use Rattle.ld_run.proofs.worker.walk_rest.Given as goal

-- the events so far were walked
abbrev pub invariant-loop-walk : goal.invariant-loop-walk
invariant-loop-walk g l =
    IsSeatOf l.board l.seat × (l.walk.place ≤ length l.events) × (l.walk.number ≤ l.walk.place)
    × Holds (KnowsFact (keys_of l.board) (view l.seat)) (KnowsFact (keys_of l.board) (view l.fn.seat))
    × ((start : View) × IsWalking (keys_of l.board) start (view l.seat) l.events l.walk)
    × ((start : View) → IsWalking (keys_of l.board) start (view l.fn.seat) l.events l.fn.walk → IsWalking (keys_of l.board) start (view l.seat) l.events l.walk)

abbrev pub decreases-loop-walk : goal.decreases-loop-walk
decreases-loop-walk g l = length l.events - l.walk.place
