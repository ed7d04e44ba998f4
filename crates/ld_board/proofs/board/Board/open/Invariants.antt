use Rattle.ld_board.proofs.Names.{[], ◌+◌, ◌≡◌, ◌≤◌, All, newcomer, vec_capacity, vec_len}
use Rattle.ld_board.proofs.board.Board.open.Given as goal

abbrev pub invariant-loop-made : goal.invariant-loop-made
invariant-loop-made l =
    (l.first.table_id ≡ l.table.shared.table_id)
    × (l.first.me.0.parts + l.made ≡ l.seats)
    × (l.first.me.0 ≡ newcomer l.first.me.0.parts)
    × (l.first.me.1 ≡ [])
    × (vec_len l.all ≡ l.made)
    × (l.seats ≤ vec_capacity l.all)
    × All (λ s. (s.seat.table_id ≡ l.table.shared.table_id) × (s.seat.me.0 ≡ newcomer 1)) l.all.items
