use Rattle.ld_board.proofs.Names.{[], ◌+◌, ◌-◌, ◌∙◌, ◌∷◌, ◌≡◌, All, List, Seat, View, ap, arith, left_view, length, newcomer, refl, replicate, slice_index, subst, suc, sym, word_total, zero, ℕ}
use Rattle.std.proofs.lemmas.List.Elements.{All-append, All-cons, All-nil}
use Rattle.ld_board.proofs.Moves.{cuts, opens}
use Rattle.ld_board.proofs.board.Board.open.Goals as goal

blank_at : (k n : ℕ) → slice_index (replicate k 0) n ≡ 0
blank_at zero n = refl
blank_at (suc k) zero = refl
blank_at (suc k) (suc n) = blank_at k n

pub of_words-requires : goal.of_words-requires
of_words-requires c =
    let len = c.in_ok-blank.ensures.len in
    let s = c.as_slice.ensures in
    let l = s.len in
    let words = c.word_total.ensures in
    let keys = ap (λ k. word_total k) c.from.ensures in
    opens _ _ (omega arith) (omega arith) (omega arith) (λ n. ap (λ (ws : List ℕ). slice_index ws n) s.value ∙ ap (λ (ws : List ℕ). slice_index ws n) (c.in_ok-blank.ensures.items_if_clones_equal (λ y e. e)) ∙ blank_at (c.word_total.result + 1) n)

pub split_seat-seat-requires : goal.split_seat-seat-requires
split_seat-seat-requires c =
    let i = c.loop-made.invariant in
    let t = c.loop-made-test.true in
    let parts = i.1 in
    let e = c.in_ok-table.ensures in
    let words = e.0 in
    let len = c.in_ok-blank.ensures.len in
    let s = c.as_slice.ensures in
    let l = s.len in
    (i.0, omega arith, cuts _ _ _ (omega arith) (ap (λ (v : View). length v.claimed) i.2))

pub loop-made-preserved : goal.loop-made-preserved
loop-made-preserved c =
    let i = c.loop-made.invariant in
    let t = c.loop-made-test.true in
    let s = c.split_seat-seat.ensures in
    let n = c.new.ensures in
    let p = c.push_reserved.ensures in
    let left : c.split_seat-seat.new.seat.me.0 ≡ newcomer (c.loop-made.first.me.0.parts - 1) = ap (λ m. m.0) s.2 ∙ ap left_view i.2 in
    let parts : c.split_seat-seat.new.seat.me.0.parts ≡ c.loop-made.first.me.0.parts - 1 = ap (λ (v : View). v.parts) left in
    let all = i.1 in
    let len = p.len in
    let old = i.4 in
    let room = i.5 in
    let capacity = p.capacity in
    let New : Seat → Type 0 = λ t. (t.seat.table_id ≡ c.in_ok-table.table.shared.table_id) × (t.seat.me.0 ≡ newcomer 1) in (
      s.0 ∙ i.0,
      omega arith,
      left ∙ ap newcomer (sym parts),
      ap (λ m. m.1) s.2 ∙ i.3,
      omega arith,
      omega arith,
      subst (All New) (sym p.items)
          (All-append New c.loop-made.all.items (c.new.result ∷ []) i.6
          (All-cons New c.new.result [] (ap (λ z. z.table_id) n ∙ s.3 ∙ i.0, ap (λ z. z.me.0) n ∙ ap (λ m. m.0) s.4) (All-nil New))),
    )
