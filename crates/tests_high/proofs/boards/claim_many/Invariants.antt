use Rattle.std.proofs.Common.{◌≡◌, length}
use Rattle.ld_board.specs.Boards.{IsSeatOf}
use Rattle.ld_board.specs.Seats.{view}
use Rattle.tests_high.proofs.boards.claim_many.Given as goal

-- as many numbers were claimed
abbrev pub invariant-loop-n : goal.invariant-loop-n
invariant-loop-n l = IsSeatOf l.board l.seat × (length (view l.seat).claimed ≡ l.n) × (length l.numbers ≡ 1000)
