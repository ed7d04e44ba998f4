use Rattle.ld_board.proofs.Names.{◌++◌, ◌∙◌, ◌∷◌, ◌≡◌, List, View, Within, ap, arith, bits_of, length, subst, sym, view, with_look, with_put, ℕ}
use Rattle.ld_board.proofs.WordLists.{or_self, within_cons, within_here, within_left, within_right}
use Rattle.ld_board.proofs.board.Board.put_if_lacking.Goals.{After-put_word}
use Rattle.ld_board.proofs.board.Board.put_if_lacking.Goals as goal

-- the word is only loaded
pub returns-then-wanted-found-clause-keeps : goal.returns-then-wanted-found-clause-keeps
returns-then-wanted-found-clause-keeps c =
    subst (λ (v : View). (n : ℕ) → Within (bits_of n (view c.args.seat.now).put) (bits_of n v.put)) (sym c.look_word-found.ensures.looked) (λ n. or_self _)

pub returns-then-wanted-found-clause-only : goal.returns-then-wanted-found-clause-only
returns-then-wanted-found-clause-only c =
    let old : List (ℕ × ℕ) = (view c.args.seat.now).put in
    subst (λ (v : View). (n : ℕ) → Within (bits_of n v.put) (bits_of n ((c.args.word, c.args.wanted) ∷ old))) (sym c.look_word-found.ensures.looked)
    (λ n. within_cons n _ (c.args.word, c.args.wanted) old (or_self _))

pub returns-then-wanted-found-clause-seen : goal.returns-then-wanted-found-clause-seen
returns-then-wanted-found-clause-seen c =
    let old : List (ℕ × ℕ) = (view c.args.seat.now).seen in
    subst (λ (v : View). (n : ℕ) → Within (bits_of n old) (bits_of n v.seen)) (sym c.look_word-found.ensures.looked)
    (λ n. within_cons n _ (c.args.word, c.look_word-found.result) old (or_self _))

pub returns-then-wanted-found-clause-knows : goal.returns-then-wanted-found-clause-knows
returns-then-wanted-found-clause-knows c =
    let old : View = view c.args.seat.now in
    let found : ℕ = c.look_word-found.result in
    subst (λ (v : View). Within c.args.wanted (bits_of c.args.word (v.put ++ v.seen))) (sym c.look_word-found.ensures.looked)
    (within_right c.args.word c.args.wanted old.put ((c.args.word, found) ∷ old.seen) (within_here c.args.word c.args.wanted found old.seen c.if-wanted-found.true))

pub returns-then-wanted-found-clause-covered : goal.returns-then-wanted-found-clause-covered
returns-then-wanted-found-clause-covered c = λ _.
    let old : View = view c.args.seat.now in (
      ap (λ (v : View). v.put) c.look_word-found.ensures.looked,
      subst (λ (v : View). Within c.args.wanted (bits_of c.args.word v.seen)) (sym c.look_word-found.ensures.looked)
          (within_here c.args.word c.args.wanted c.look_word-found.result old.seen c.if-wanted-found.true),
    )

pub returns-then-wanted-found-clause-some : goal.returns-then-wanted-found-clause-some
returns-then-wanted-found-clause-some c = omega (arith, ap (λ (v : View). length v.put) c.look_word-found.ensures.looked)

-- it is loaded, and then the bits are put
both : (c : After-put_word) → (found : ℕ) × (view c.put_word.new.seat ≡ with_put (with_look (view c.args.seat.now) c.args.word c.look_word-found.result) c.args.word c.args.wanted found)
both c =
    let p = c.put_word.ensures.put in
    (p.0, p.1 ∙ ap (λ (v : View). with_put v c.args.word c.args.wanted p.0) c.look_word-found.ensures.looked)

pub returns-clause-keeps : goal.returns-clause-keeps
returns-clause-keeps c =
    let old : List (ℕ × ℕ) = (view c.args.seat.now).put in
    subst (λ (v : View). (n : ℕ) → Within (bits_of n old) (bits_of n v.put)) (sym (both c).1)
    (λ n. within_cons n _ (c.args.word, c.args.wanted) old (or_self _))

pub returns-clause-only : goal.returns-clause-only
returns-clause-only c =
    let old : List (ℕ × ℕ) = (view c.args.seat.now).put in
    subst (λ (v : View). (n : ℕ) → Within (bits_of n v.put) (bits_of n ((c.args.word, c.args.wanted) ∷ old))) (sym (both c).1) (λ n. or_self _)

pub returns-clause-seen : goal.returns-clause-seen
returns-clause-seen c =
    let old : List (ℕ × ℕ) = (view c.args.seat.now).seen in
    let first : ℕ × ℕ = (c.args.word, c.look_word-found.result) in
    subst (λ (v : View). (n : ℕ) → Within (bits_of n old) (bits_of n v.seen)) (sym (both c).1)
    (λ n. within_cons n _ (c.args.word, (both c).0) (first ∷ old) (within_cons n _ first old (or_self _)))

pub returns-clause-some : goal.returns-clause-some
returns-clause-some c = omega (arith, ap (λ (v : View). length v.put) (both c).1)

pub returns-clause-knows : goal.returns-clause-knows
returns-clause-knows c =
    let old : View = view c.args.seat.now in
    subst (λ (v : View). Within c.args.wanted (bits_of c.args.word (v.put ++ v.seen))) (sym (both c).1)
    (within_left c.args.word c.args.wanted ((c.args.word, c.args.wanted) ∷ old.put) ((c.args.word, (both c).0) ∷ (c.args.word, c.look_word-found.result) ∷ old.seen)
    (within_here c.args.word c.args.wanted c.args.wanted old.put (or_self c.args.wanted)))
