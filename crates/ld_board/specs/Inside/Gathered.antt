-- The seats of a list, gathered in one view [this project's own].
use Rattle.std.specs.Prelude.{List, [], ◌∷◌}
use Rattle.ld_board.specs.Views.{newcomer}
use Rattle.ld_board.specs.Seats.{view}
use Rattle.ld_board.specs.Inside.BoardRule.{joined}
use Rattle.ld_board.specs.declared.view.View.{View}
use Rattle.ld_board.specs.declared.seat.Seat.{Seat}

-- the view v and those of the seats, the last one first
abbrev pub joined_onto : View → List Seat → View
joined_onto v [] = v
joined_onto v (s ∷ ss) = joined (joined_onto v ss) (view s)

abbrev pub gathered : List Seat → View
gathered ss = joined_onto (newcomer 0) ss
