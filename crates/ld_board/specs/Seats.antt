-- The seats of a board [this project's own].
use Rattle.std.specs.Prelude.{ℕ, List, [], ◌∷◌, ◌++◌}
use Rattle.ld_board.specs.declared.view.View.{View}
use Rattle.ld_board.specs.declared.seat.Seat.{Seat}

-- what the seat has done
abbrev pub view : Seat → View
view s = s.seat.me.0

-- the numbers that the seats have claimed
abbrev pub claims_of : List Seat → List ℕ
claims_of [] = []
claims_of (s ∷ ss) = claims_of ss ++ (view s).claimed
