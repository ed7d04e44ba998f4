use Rattle.ld_board.proofs.Names.{◌+◌, ◌<◌, ◌∙◌, ◌∷◌, List, NonePast, View, Within, ap, bit_or, bits_of, drop, keys_of, refl, subst, sym, view, word_total, ℕ}
use Rattle.ld_board.proofs.SeatFacts.{pair_at}
use Rattle.ld_board.proofs.WordLists.{or_self, put_step, within_cons}
use Rattle.ld_board.proofs.board.Board.put_words.Goals as goal

pub loop-n-init : goal.loop-n-init
loop-n-init c = (c.requires.seat, refl, λ n. refl, refl, λ n. or_self _)

pub put_word-requires : goal.put_word-requires
put_word-requires c =
    let at = pair_at c.args.seat.now.words c.loop-n.seat.words c.loop-n.n c.in-Some.word c.in-Some.bits c.loop-n.invariant.1 (sym c.get.ensures ∙ c.in-Some.is) in
    record {
      seat = c.loop-n.invariant.0;
      word = subst (λ (p : ℕ × ℕ). p.0 < word_total (keys_of c.args.self.now)) at.1 (c.requires.words c.loop-n.n (0, 0) at.0);
      none_past = subst (NonePast (keys_of c.args.self.now)) at.1 (c.requires.none_past c.loop-n.n (0, 0) at.0);
    }

pub loop-n-preserved : goal.loop-n-preserved
loop-n-preserved c =
    let i = c.loop-n.invariant in
    let words : List (ℕ × ℕ) = c.args.seat.now.words in
    let at = pair_at words c.loop-n.seat.words c.loop-n.n c.in-Some.word c.in-Some.bits i.1 (sym c.get.ensures ∙ c.in-Some.is) in
    let p = c.put_word.ensures.put in
    let was : View = view c.loop-n.seat in (
      c.put_word.ensures.seat,
      c.put_word.ensures.words ∙ i.1,
      (λ n.
          ap (λ (v : View). bit_or (bits_of n (drop (c.loop-n.n + 1) words)) (bits_of n v.put)) p.1
          ∙ ap (λ (x : ℕ × ℕ). bit_or (bits_of n (drop (c.loop-n.n + 1) words)) (bits_of n (x ∷ was.put))) (sym at.1)
          ∙ put_step n words was.put c.loop-n.n at.0 ∙ i.2 n),
      ap (λ (v : View). v.claimed) p.1 ∙ i.3,
      (λ n. subst (λ (v : View). Within (bits_of n (view c.args.seat.now).seen) (bits_of n v.seen)) (sym p.1) (within_cons n _ _ was.seen (i.4 n))),
    )
