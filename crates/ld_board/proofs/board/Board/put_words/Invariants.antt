use Rattle.ld_board.proofs.Names.{◌≡◌, IsSeatOf, Within, bit_or, bits_of, drop, view, ℕ}
use Rattle.ld_board.proofs.board.Board.put_words.Given as goal

-- the words so far were put
abbrev pub invariant-loop-n : goal.invariant-loop-n
invariant-loop-n l =
    IsSeatOf l.self l.seat
    × (l.seat.words ≡ l.initial.seat.words)
    × ((n : ℕ) → bit_or (bits_of n (drop l.n l.initial.seat.words)) (bits_of n (view l.seat).put) ≡ bit_or (bits_of n l.initial.seat.words) (bits_of n (view l.initial.seat).put))
    × ((view l.seat).claimed ≡ (view l.initial.seat).claimed)
    × ((n : ℕ) → Within (bits_of n (view l.initial.seat).seen) (bits_of n (view l.seat).seen))
