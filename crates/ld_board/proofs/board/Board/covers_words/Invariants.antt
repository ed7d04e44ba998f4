use Rattle.ld_board.proofs.Names.{◌++◌, ◌<◌, ◌↔◌, ◌≡◌, Any, IsSeatOf, IsTrue, List, Within, bits_of, slice_index_or, view, ℕ}
use Rattle.ld_board.proofs.board.Board.covers_words.Given as goal

-- the words so far were loaded
abbrev pub invariant-loop-n : goal.invariant-loop-n
invariant-loop-n l =
    let words = l.initial.seat.words in
    let now = view l.seat in
    let was = view l.initial.seat in
    IsSeatOf l.self l.seat
    × (l.seat.words ≡ words)
    × (now.put ≡ was.put)
    × (now.claimed ≡ was.claimed)
    × ((n : ℕ) → Within (bits_of n was.seen) (bits_of n now.seen))
    × (IsTrue l.all ↔ ((k : ℕ) (d : ℕ × ℕ) → k < l.n → Within (slice_index_or words k d).1 (bits_of (slice_index_or words k d).0 now.seen)))
    × ((loaded : List (ℕ × ℕ)) × (now.seen ≡ loaded ++ was.seen)
    × ((k : ℕ) (d : ℕ × ℕ) → k < l.n → Any (λ q. q.0 ≡ (slice_index_or words k d).0) loaded)
    × ((k : ℕ) (d : ℕ × ℕ) → k < l.n → Within (bits_of (slice_index_or words k d).0 (was.put ++ was.seen)) (bits_of (slice_index_or words k d).0 loaded))
    × (IsTrue l.all ↔ ((k : ℕ) (d : ℕ × ℕ) → k < l.n → Within (slice_index_or words k d).1 (bits_of (slice_index_or words k d).0 loaded))))
