use Rattle.ld_board.proofs.Names.{◌<◌, ◌≡◌, Fact, IsSeatOf, SeenHas, Some, Within, bits_of, chain_fact, keys_of, view, ℕ}
use Rattle.ld_board.proofs.board.Board.has_long.Given as goal

-- the facts in the slots so far are there
abbrev pub invariant-loop-n : goal.invariant-loop-n
invariant-loop-n l =
    let now = view l.seat in
    let was = view l.initial.seat in
    IsSeatOf l.self l.seat
    × (now.put ≡ was.put)
    × (now.claimed ≡ was.claimed)
    × ((n : ℕ) → Within (bits_of n was.seen) (bits_of n now.seen))
    × ((k : ℕ) (x : Fact) → k < l.n → chain_fact l.chain k ≡ Some x → SeenHas (keys_of l.self) now x)
