use Rattle.ld_facts.proofs.Names.{◌-◌, ◌∙◌, ◌≡◌, ap, arith, bit_and, bit_at, bit_at-lt, bit_at-zero, bit_not, eqb-true, min, sym, w64}
use Rattle.ld_facts.proofs.BitLemmas.{bit_at_beyond}
use Rattle.ld_facts.proofs.bits.is_within.Goals as goal

pub returns : goal.returns
returns c = λ empty k below set.
    let none : bit_and c.args.word (bit_not w64 c.args.other) ≡ 0 = eqb-true (bit_and c.args.word (bit_not w64 c.args.other)) 0 empty in
    let at : min (bit_at c.args.word k) (1 - bit_at c.args.other k) ≡ 0 =
    sym (bit_at_beyond c.args.word c.args.other k c.ranges.other.fits below) ∙ ap (λ x. bit_at x k) none ∙ bit_at-zero k in
    omega (arith, bit_at-lt c.args.other k, at, set)
