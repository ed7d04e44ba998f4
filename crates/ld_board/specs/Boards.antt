-- A board, and which seats are its own [this project's own].
use Rattle.std.specs.Prelude.{◌≡◌, ℕ}
use Rattle.ld_board.specs.declared.seat.Seat.{Seat}
use Rattle.ld_board.specs.declared.board.Board.{Board}

-- the bound on the keys that the board's facts are about
abbrev pub keys_of : Board → ℕ
keys_of b = b.keys

-- how many seats it was opened with
abbrev pub seat_count : Board → ℕ
seat_count b = b.seats

-- the seat is one of the board's
abbrev pub IsSeatOf : Board → Seat → Type 0
IsSeatOf b s = s.seat.table_id ≡ b.table.shared.table_id
