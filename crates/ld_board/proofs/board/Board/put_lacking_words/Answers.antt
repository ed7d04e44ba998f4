use Rattle.ld_board.proofs.Names.{◌++◌, ◌+◌, ◌<◌, ◌||◌, ◌∙◌, ◌∷◌, ◌≡◌, ◌≤◌, Bool, IsTrue, List, NonePast, View, Within, ap, arith, bits_of, cond, false, get_or, keys_of, length, or_parts, refl, subst, sym, true, view, word_total, ℕ}
use Rattle.ld_board.proofs.SeatFacts.{pair_at}
use Rattle.ld_board.proofs.WordLists.{or_self, all_from_pairs, each_next, only_step, within_appended, within_right, within_through}
use Rattle.ld_board.proofs.board.Board.put_lacking_words.Goals.{After-loop-n}
use Rattle.ld_board.proofs.board.Board.put_lacking_words.Goals as goal

pub loop-n-init : goal.loop-n-init
loop-n-init c = (
  c.requires.seat,
  refl,
  refl,
  (λ n. or_self _),
  (λ n. within_right n _ c.args.seat.now.words (view c.args.seat.now).put (or_self _)),
  (λ n. or_self _),
  (λ k d l. absurd (omega (arith, l))),
  (λ _. (refl, λ k d l. absurd (omega (arith, l)))),
  omega arith,
  (λ on. omega (arith, ap {B = ℕ} (λ b. cond b 1 0) on)),
)

-- whether there were any, after one word more
more_put : (any one : Bool) (was mid new : ℕ) → new ≡ mid + cond one 1 0 → was ≤ mid → (IsTrue any → was < mid) →
    (was ≤ new) × (IsTrue (any || one) → was < new)
more_put any true was mid new e l some = (omega arith, λ _. omega arith)
more_put true false was mid new e l some = (omega arith, λ on. omega (arith, some on))
more_put false false was mid new e l some = (omega arith, λ on. omega (arith, ap {B = ℕ} (λ b. cond b 1 0) on))

pub put_if_lacking-any-requires : goal.put_if_lacking-any-requires
put_if_lacking-any-requires c =
    let at = pair_at c.args.seat.now.words c.loop-n.seat.words c.loop-n.n c.in-Some.word c.in-Some.bits c.loop-n.invariant.1 (sym c.get.ensures ∙ c.in-Some.is) in
    record {
      seat = c.loop-n.invariant.0;
      word = subst (λ (p : ℕ × ℕ). p.0 < word_total (keys_of c.args.self.now)) at.1 (c.requires.words c.loop-n.n (0, 0) at.0);
      none_past = subst (NonePast (keys_of c.args.self.now)) at.1 (c.requires.none_past c.loop-n.n (0, 0) at.0);
    }

pub loop-n-preserved : goal.loop-n-preserved
loop-n-preserved c =
    let i = c.loop-n.invariant in
    let e = c.put_if_lacking-any.ensures in
    let n : ℕ = c.loop-n.n in
    let words : List (ℕ × ℕ) = c.args.seat.now.words in
    let was : View = view c.args.seat.now in
    let mid : View = view c.loop-n.seat in
    let new : View = view c.put_if_lacking-any.new.seat in
    let at = pair_at words c.loop-n.seat.words n c.in-Some.word c.in-Some.bits i.1 (sym c.get.ensures ∙ c.in-Some.is) in
    let x : ℕ × ℕ = get_or words n (0, 0) in (
      e.seat,
      e.words ∙ i.1,
      e.claimed ∙ i.2,
      (λ m. within_through _ _ _ (i.3 m) (e.keeps m)),
      (λ m. only_step m words was.put mid.put new.put n at.0 (i.4 m) (subst (λ (p : ℕ × ℕ). Within (bits_of m new.put) (bits_of m (p ∷ mid.put))) (sym at.1) (e.only m))),
      (λ m. within_through _ _ _ (i.5 m) (e.seen m)),
      each_next (λ p. Within p.1 (bits_of p.0 (new.put ++ new.seen))) words n at.0
          (subst (λ (p : ℕ × ℕ). Within p.1 (bits_of p.0 (new.put ++ new.seen))) (sym at.1) e.knows)
          (λ k d l. let p : ℕ × ℕ = get_or words k d in within_appended p.0 p.1 mid.put new.put mid.seen new.seen (e.keeps p.0) (e.seen p.0) (i.6 k d l)),
      (λ off.
          let (before, here) = or_parts c.loop-n.any c.put_if_lacking-any.result off in
          let found = e.covered here in
          let others = i.7 before in (
            found.0 ∙ others.0,
            each_next (λ p. Within p.1 (bits_of p.0 new.seen)) words n at.0
                (subst (λ (p : ℕ × ℕ). Within p.1 (bits_of p.0 new.seen)) (sym at.1) found.1)
                (λ k d l. let p : ℕ × ℕ = get_or words k d in within_through p.1 (bits_of p.0 mid.seen) (bits_of p.0 new.seen) (others.1 k d l) (e.seen p.0)),
          )),
      (more_put c.loop-n.any c.put_if_lacking-any.result (length was.put) (length mid.put) (length new.put) e.some i.8 i.9).0,
      (more_put c.loop-n.any c.put_if_lacking-any.result (length was.put) (length mid.put) (length new.put) e.some i.8 i.9).1,
    )

-- all words were visited
past : (c : After-loop-n) → (k : ℕ) → k < length c.args.seat.now.words → k < c.loop-n.n
past c k l =
    let test = c.loop-n-test.false in
    let end = c.len-n-end.ensures.exact in
    omega (arith, l)

pub returns-clause-knows : goal.returns-clause-knows
returns-clause-knows c =
    let words : List (ℕ × ℕ) = c.args.seat.now.words in
    all_from_pairs words ((view c.loop-n.seat).put ++ (view c.loop-n.seat).seen) (λ k d l. c.loop-n.invariant.6 k d (past (goal.at.returns-clause-knows c).After-loop-n k l))

pub returns-clause-covered : goal.returns-clause-covered
returns-clause-covered c = λ off.
    let found = c.loop-n.invariant.7 off in
    (found.0, all_from_pairs c.args.seat.now.words (view c.loop-n.seat).seen (λ k d l. found.1 k d (past (goal.at.returns-clause-covered c).After-loop-n k l)))
