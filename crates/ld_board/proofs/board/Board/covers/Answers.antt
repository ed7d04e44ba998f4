use Rattle.ld_board.proofs.Names.{◌++◌, PairsHave-append, PairsHave-within, keys_of, view}
use Rattle.ld_board.proofs.SeatFacts.{covers_chain, loads_chain, saw_own}
use Rattle.ld_board.proofs.board.Board.covers.Goals as goal

pub returns-clause-answer : goal.returns-clause-answer
returns-clause-answer c =
    let law = covers_chain (keys_of c.args.self.now) c.args.chain.now c.set_to.new.self c.set_to.ensures c.facts_are_bits.ensures.each (view c.covers_words.new.seat).seen in
    let e = c.covers_words.ensures.answer in
    ((λ t. law.0 (e.0 t)), (λ h. e.1 (law.1 h)))

pub returns-clause-seen : goal.returns-clause-seen
returns-clause-seen c = PairsHave-within (keys_of c.args.self.now) (view c.args.seat.now).seen (view c.covers_words.new.seat).seen c.covers_words.ensures.seen

pub returns-clause-loaded : goal.returns-clause-loaded
returns-clause-loaded c =
    let keys = keys_of c.args.self.now in
    let (loaded, saw, all, own, has_all) = c.covers_words.ensures.loaded in
    let was = view c.args.seat.now in
    let law = covers_chain keys c.args.chain.now c.set_to.new.self c.set_to.ensures c.facts_are_bits.ensures.each loaded in (
      loaded,
      record {
        seen = saw;
        each = loads_chain keys c.args.chain.now c.set_to.new.self c.set_to.ensures loaded all;
        own = λ x y has share knows.
            saw_own keys c.args.chain.now c.set_to.new.self c.set_to.ensures (was.put ++ was.seen) loaded own x y has share ((PairsHave-append keys was.put was.seen y).1 knows);
      },
      ((λ t. law.0 (has_all.0 t)), (λ h. has_all.1 (law.1 h))),
    )
