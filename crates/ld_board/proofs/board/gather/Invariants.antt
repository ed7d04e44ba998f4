use Rattle.ld_board.proofs.Names.{◌+◌, ◌<◌, ◌≡◌, All, joined_onto, vec_len}
use Rattle.ld_board.proofs.board.gather.Given as goal

abbrev pub invariant-loop-next : goal.invariant-loop-next
invariant-loop-next l =
    (l.one.table_id ≡ l.table.shared.table_id)
    × (joined_onto l.one.me.0 l.seats.items ≡ joined_onto l.fn.last.seat.me.0 l.fn.seats.items)
    × (l.one.me.0.parts + vec_len l.seats ≡ vec_len l.fn.seats + 1)
    × (0 < l.one.me.0.parts)
    × All (λ s. s.seat.table_id ≡ l.table.shared.table_id) l.seats.items

abbrev pub decreases-loop-next : goal.decreases-loop-next
decreases-loop-next l = goal.left-loop-next l
