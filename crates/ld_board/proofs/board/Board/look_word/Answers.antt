use Rattle.ld_board.proofs.Names.{arith}
use Rattle.ld_board.proofs.Moves.{looks}
use Rattle.ld_board.proofs.board.Board.look_word.Goals as goal

pub load-requires : goal.load-requires
load-requires c =
    let words = c.args.self.now.words in
    let e = c.requires.word in
    (c.requires.seat, omega arith, looks _ _ _ _ _ (omega arith) c.args.seat.now.one_part)
