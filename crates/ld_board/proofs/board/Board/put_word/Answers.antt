use Rattle.ld_board.proofs.Names.{◌+◌, ◌-◌, ◌<◌, ◌≡◌, NonePast, arith, subst, sym, word_total, ℕ}
use Rattle.ld_board.proofs.Moves.{puts}
use Rattle.ld_board.proofs.board.Board.put_word.Goals as goal

pub fetch_or-requires : goal.fetch_or-requires
fetch_or-requires c =
    let board = c.args.self.now in
    let words = board.words in
    let e = c.requires.word in
    let same = sym board.keyed in
    let back : c.args.word ≡ c.args.word + 1 - 1 = omega arith in (
      c.requires.seat,
      omega arith,
      puts _ _ _ _ _ _ (omega arith) (subst (λ k. c.args.word + 1 < word_total k + 1) same (omega arith)) (subst (λ (p : ℕ × ℕ). NonePast p.0 (p.1, c.args.bits)) (λ i. (same i, back i)) c.requires.none_past) c.args.seat.now.one_part,
    )
