-- The codes of boards that aren't opened or closed [this project's own].
use Rattle.std.specs.Prelude.{ℕ, List, codes}
use Rattle.ld_board.specs.declared.board_fault.BoardFault.{BoardFault}
use Rattle.ld_board.specs.declared.board_fault.BoardFault.TheVariants.{Seats, Memory}

-- the fault's number and name
abbrev pub board_code_of : BoardFault → List ℕ
board_code_of Seats = codes "C1 Seats"
board_code_of Memory = codes "C2 Memory"
