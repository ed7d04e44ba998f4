use Rattle.ld_run.proofs.Names.{◌+◌, ◌-◌, ◌≤◌, AreKnown, IsSeatOf, List, keys_of, length, on_board, view, ℕ}
use Rattle.ld_run.proofs.Working.{IsWorking}
use Rattle.ld_run.proofs.worker.work.Given as goal

-- the traces drawn so far were walked, and the number is drawn next; what is known of steps stays known
abbrev pub invariant-loop-number : goal.invariant-loop-number
invariant-loop-number g l =
    IsSeatOf l.board l.seat
    × ((drawn : List ℕ) × IsWorking (keys_of l.board) l.traces (view l.fn.seat) (view l.seat) drawn l.number l.refused)
    × (length (view l.seat).claimed ≤ length (view l.fn.seat).claimed + l.number + 1)
    × AreKnown (on_board (keys_of l.board) (view l.seat)) l.known

abbrev pub decreases-loop-number : goal.decreases-loop-number
decreases-loop-number g l = length l.traces - l.number
