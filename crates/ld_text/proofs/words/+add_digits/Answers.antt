use Rattle.ld_text.proofs.Names.{[], ◌%◌, ◌++◌, ◌+◌, ◌/◌, ◌<◌, ◌^◌, ◌∙◌, ◌∷◌, ◌≡◌, ◌≤◌, List, ap, append_assoc, arith, decimal, decimal_digit, decimal_step, length, length-append, rules, sym, ℕ}
use Rattle.ld_text.proofs.words.+add_digits.Goals as goal

-- one digit more than without the last
length_step : (n : ℕ) → 10 ≤ n → n < 2 ^ 64 → length (decimal n) ≡ length (decimal (n / 10)) + 1
length_step n large small = ap length (decimal_step n large small) ∙ length-append (decimal (n / 10)) ((48 + n % 10) ∷ [])

pub push_str-requires : goal.push_str-requires
push_str-requires t c =
    let one : length (decimal c.args.number) ≡ 1 = ap length (decimal_digit c.args.number c.if-number-lt10.true) in
    let same : length c.digit.result.now ≡ 1 = ap length c.digit.ensures in
    omega (arith, one, same, c.requires)

pub returns-then-number-lt10 : goal.returns-then-number-lt10
returns-then-number-lt10 t c =
    c.push_str.ensures.bytes ∙ ap (λ (last : List ℕ). c.args.digits.now.bytes ++ last) (c.digit.ensures ∙ sym (decimal_digit c.args.number c.if-number-lt10.true))

pub add_digits-requires : goal.add_digits-requires
add_digits-requires t c =
    let step = length_step c.args.number c.if-number-lt10.false c.ranges.number.fits in
    (search rules, omega (arith, step, c.requires))

pub push_str-requires-2 : goal.push_str-requires-2
push_str-requires-2 t c =
    let step = length_step c.args.number c.if-number-lt10.false c.ranges.number.fits in
    let one = ap length c.digit-2.ensures in
    let before = ap length c.add_digits.ensures ∙ length-append c.args.digits.now.bytes (decimal (c.args.number / 10)) in
    omega (arith, step, one, before, c.requires)

pub returns : goal.returns
returns t c =
    c.push_str-2.ensures.bytes ∙ ap (λ (bytes : List ℕ). bytes ++ c.digit-2.result.now) c.add_digits.ensures
    ∙ append_assoc c.args.digits.now.bytes (decimal (c.args.number / 10)) c.digit-2.result.now
    ∙ ap (λ (more : List ℕ). c.args.digits.now.bytes ++ more)
    (ap (λ (last : List ℕ). decimal (c.args.number / 10) ++ last) c.digit-2.ensures ∙ sym (decimal_step c.args.number c.if-number-lt10.false c.ranges.number.fits))
