use Rattle.ld_board.proofs.Names.{◌++◌, ◌<◌, ◌∙◌, ◌≡◌, Fact, KnowsFact, List, PairsHave, PairsHave-append, PairsHave-within, PutHas, View, Within, bits_of, inl, inr, keys_of, length, subst, sym, view, ℕ}
use Rattle.ld_board.proofs.board.Board.put_unless_covered.Goals as goal

-- the board was only looked at
module _ (keys : ℕ) (old mid : View) (same : mid.put ≡ old.put) (seen : (n : ℕ) → Within (bits_of n old.seen) (bits_of n mid.seen)) where
  keeps_put : (x : Fact) → PutHas keys old x → PutHas keys mid x
  keeps_put x h = subst (λ ps. PairsHave keys ps x) (sym same) h

  puts_none : (x : Fact) → PutHas keys mid x → PutHas keys old x
  puts_none x h = subst (λ ps. PairsHave keys ps x) same h

  keeps_known : (x : Fact) → KnowsFact keys old x → KnowsFact keys mid x
  keeps_known x h = elim h [
    | inl p ↦ inl (keeps_put x p)
    | inr s ↦ inr (PairsHave-within keys old.seen mid.seen seen x s)
  ]

pub returns-then-has_long-clause-puts : goal.returns-then-has_long-clause-puts
returns-then-has_long-clause-puts c =
    let keys : ℕ = keys_of c.args.self.now in
    let old : View = view c.args.seat.now in
    let mid : View = view c.has_long.new.seat in
    let e = c.has_long.ensures in
    record {
      keeps = keeps_put keys old mid e.put e.seen;
      only = λ x h. inl (puts_none keys old mid e.put e.seen x h);
      knows = keeps_known keys old mid e.put e.seen;
    }

pub returns-clause-puts : goal.returns-clause-puts
returns-clause-puts c =
    let keys : ℕ = keys_of c.args.self.now in
    let old : View = view c.args.seat.now in
    let mid : View = view c.has_long.new.seat in
    let new : View = view c.put_lacking_words.new.seat in
    let words : List (ℕ × ℕ) = c.set_to.new.self in
    let looked = c.has_long.ensures in
    let e = c.put_lacking_words.ensures in
    record {
      keeps = λ x h. PairsHave-within keys mid.put new.put e.keeps x (keeps_put keys old mid looked.put looked.seen x h);
      only = λ x h. elim ((PairsHave-append keys words mid.put x).0 (PairsHave-within keys new.put (words ++ mid.put) e.only x h)) [
        | inl here ↦ inr ((c.set_to.ensures.facts x).0 here)
        | inr before ↦ inl (puts_none keys old mid looked.put looked.seen x before)
      ];
      knows = λ x h. elim (keeps_known keys old mid looked.put looked.seen x h) [
        | inl p ↦ inl (PairsHave-within keys mid.put new.put e.keeps x p)
        | inr s ↦ inr (PairsHave-within keys mid.seen new.seen e.seen x s)
      ];
    }

pub returns-clause-knows : goal.returns-clause-knows
returns-clause-knows c = λ x has.
    let keys : ℕ = keys_of c.args.self.now in
    let new : View = view c.put_lacking_words.new.seat in
    (PairsHave-append keys new.put new.seen x).0
    (PairsHave-within keys c.set_to.new.self (new.put ++ new.seen) c.put_lacking_words.ensures.knows x ((c.set_to.ensures.facts x).1 has))

pub returns-clause-some : goal.returns-clause-some
returns-clause-some c = λ on.
    subst (λ ps. length ps < length (view c.put_lacking_words.new.seat).put) c.has_long.ensures.put (c.put_lacking_words.ensures.some on)

pub returns-clause-covered : goal.returns-clause-covered
returns-clause-covered c = λ off.
    let found = c.put_lacking_words.ensures.covered off in (
      found.0 ∙ c.has_long.ensures.put,
      (λ x has. PairsHave-within (keys_of c.args.self.now) c.set_to.new.self (view c.put_lacking_words.new.seat).seen found.1 x ((c.set_to.ensures.facts x).1 has)),
    )
