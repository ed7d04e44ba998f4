use Rattle.ld_board.proofs.Names.{◌%◌, ◌/◌, ◌^◌, ◌∙◌, ◌∷◌, ◌≡◌, List, View, Within, arith, bit_and, bit_at, bits_of, eqb-true, nat_eq, refl, shr_and_one, subst, sym, true, view, ℕ}
use Rattle.ld_board.proofs.WordLists.{bit_into, or_self, within_cons}
use Rattle.ld_board.proofs.board.Board.has_fact.Goals as goal

pub returns-then-not-is_below-clause-seen : goal.returns-then-not-is_below-clause-seen
returns-then-not-is_below-clause-seen c = λ n. or_self _

pub returns-clause-seen : goal.returns-clause-seen
returns-clause-seen c =
    let old : List (ℕ × ℕ) = (view c.args.seat.now).seen in
    subst (λ (v : View). (n : ℕ) → Within (bits_of n old) (bits_of n v.seen)) (sym c.look_word-found.ensures.looked)
    (λ n. within_cons n _ (c.number-n.result / 64, c.look_word-found.result) old (or_self _))

-- the bit that is tested
bit_set : (word k : ℕ) → nat_eq (bit_and (word / 2 ^ k) 1) 1 ≡ true → bit_at word k ≡ 1
bit_set word k on = sym (shr_and_one word k) ∙ eqb-true (bit_and (word / 2 ^ k) 1) 1 on

pub returns-clause-there : goal.returns-clause-there
returns-clause-there c = λ on.
    let n : ℕ = c.number-n.result in
    let found : ℕ = c.look_word-found.result in
    let old : List (ℕ × ℕ) = (view c.args.seat.now).seen in
    let seen : List (ℕ × ℕ) = (view c.look_word-found.new.seat).seen in
    let set : bit_at (bits_of (n / 64) seen) (n % 64) ≡ 1 =
    subst (λ (v : View). bit_at (bits_of (n / 64) v.seen) (n % 64) ≡ 1) (sym c.look_word-found.ensures.looked)
    (bit_into (n / 64) (n % 64) ((n / 64, found) ∷ old) 0 (0, 0) (omega arith) refl (bit_set found (n % 64) on)) in
    (c.is_below.ensures.0 c.if-not-is_below.false, subst (λ m. bit_at (bits_of (m / 64) seen) (m % 64) ≡ 1) c.number-n.ensures.value set)
