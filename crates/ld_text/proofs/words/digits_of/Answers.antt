use Rattle.ld_text.proofs.Names.{◌++◌, ◌+◌, ◌∙◌, ◌≤◌, List, ap, arith, decimal, length, length-decimal-le, subst, sym, ℕ}
use Rattle.ld_text.proofs.words.digits_of.Goals as goal

pub add_digits-requires : goal.add_digits-requires
add_digits-requires c =
    let few = length-decimal-le 20 c.args.number (omega arith) (omega (arith, c.ranges.number.fits)) c.ranges.number.fits in
    subst (λ (bytes : List ℕ). length bytes + length (decimal c.args.number) ≤ 20) (sym c.new-digits.ensures)
    (omega (arith, few))

pub returns-clause-few : goal.returns-clause-few
returns-clause-few c = λ small.
    subst (λ (bytes : List ℕ). length bytes ≤ 3) (sym (c.add_digits.ensures ∙ ap (λ (bytes : List ℕ). bytes ++ decimal c.args.number) c.new-digits.ensures))
    (length-decimal-le 3 c.args.number (omega arith) small c.ranges.number.fits)
