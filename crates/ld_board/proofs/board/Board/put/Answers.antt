use Rattle.ld_board.proofs.Names.{PairsHave-within, keys_of, view}
use Rattle.ld_board.proofs.SeatFacts.{puts_chain}
use Rattle.ld_board.proofs.board.Board.put.Goals as goal

pub returns-clause-put : goal.returns-clause-put
returns-clause-put c = puts_chain (keys_of c.args.self.now) c.args.chain.now c.set_to.new.self c.set_to.ensures (view c.args.seat.now).put (view c.put_words.new.seat).put c.put_words.ensures.put

pub returns-clause-seen : goal.returns-clause-seen
returns-clause-seen c = PairsHave-within (keys_of c.args.self.now) (view c.args.seat.now).seen (view c.put_words.new.seat).seen c.put_words.ensures.seen
