use Rattle.ld_board.proofs.Names.{◌++◌, ◌<◌, ◌≡◌, ◌≤◌, IsFalse, IsSeatOf, IsTrue, Within, bits_of, length, slice_index_or, view, ℕ}
use Rattle.ld_board.proofs.board.Board.put_lacking_words.Given as goal

-- of the words so far those that lacked some bits were put, and the others were found
abbrev pub invariant-loop-n : goal.invariant-loop-n
invariant-loop-n l =
    let words = l.initial.seat.words in
    let now = view l.seat in
    let was = view l.initial.seat in
    IsSeatOf l.self l.seat
    × (l.seat.words ≡ words)
    × (now.claimed ≡ was.claimed)
    × ((n : ℕ) → Within (bits_of n was.put) (bits_of n now.put))
    × ((n : ℕ) → Within (bits_of n now.put) (bits_of n (words ++ was.put)))
    × ((n : ℕ) → Within (bits_of n was.seen) (bits_of n now.seen))
    × ((k : ℕ) (d : ℕ × ℕ) → k < l.n → Within (slice_index_or words k d).1 (bits_of (slice_index_or words k d).0 (now.put ++ now.seen)))
    × (IsFalse l.any → (now.put ≡ was.put) × ((k : ℕ) (d : ℕ × ℕ) → k < l.n → Within (slice_index_or words k d).1 (bits_of (slice_index_or words k d).0 now.seen)))
    × (length was.put ≤ length now.put)
    × (IsTrue l.any → length was.put < length now.put)
