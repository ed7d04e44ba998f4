use Rattle.ld_board.proofs.Names.{◌≡◌, AreSame, HasFact, slots_items}
use Rattle.ld_board.proofs.SeatFacts.{WordsHave}
use Rattle.ld_board.proofs.board.unite_words.Given as goal

-- the facts of the words so far were added
abbrev pub invariant-loop-n : goal.invariant-loop-n
invariant-loop-n l =
    (l.facts.keys ≡ l.initial.facts.keys)
    × AreSame (HasFact l.facts) (WordsHave l.initial.facts.keys (slots_items l.closed.words) l.n)
