use Rattle.ld_board.proofs.Names.{arith}
use Rattle.ld_board.proofs.Moves.{claims}
use Rattle.ld_board.proofs.board.Board.claim.Goals as goal

pub fetch_add-requires : goal.fetch_add-requires
fetch_add-requires c =
    let words = c.args.self.now.words in
    let counted = c.args.seat.now.counted in
    let left = c.requires.left in
    (c.requires.seat, omega arith, claims _ _ _ _ c.args.seat.now.one_part (omega arith))

pub returns-clause-rises : goal.returns-clause-rises
returns-clause-rises c = c.fetch_add.ensures.2.1
