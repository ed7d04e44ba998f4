-- Words with the same bits are the same words.
use Rattle.ld_facts.proofs.Names.{◌%◌, ◌*◌, ◌+◌, ◌/◌, ◌<◌, ◌^◌, ◌∙◌, ◌≡◌, List, ap, arith, bit_at, bit_at-lt, cases_eq, eq-eqb, eqb, eqb-true, get_or, has_bit, inl, inr, ne_eqb, same_from_bits_below, sym, ℕ}

same_bit : (x y : ℕ) → x < 2 → y < 2 → eqb x 1 ≡ eqb y 1 → x ≡ y
same_bit x y lx ly e =
    elim (cases_eq x 1) [
      | inl p ↦ let q : y ≡ 1 = eqb-true y 1 (sym e ∙ eq-eqb x 1 p) in omega arith
      | inr n ↦
          elim (cases_eq y 1) [
            | inl q ↦ absurd (let a = eq-eqb y 1 q in let b = ne_eqb x 1 n in cc)
            | inr m ↦ omega arith
          ]
    ]

pub same_word : (a b : List ℕ) (k : ℕ) → get_or a k 0 < 2 ^ 64 → get_or b k 0 < 2 ^ 64 → ((n : ℕ) → has_bit a n ≡ has_bit b n) → get_or a k 0 ≡ get_or b k 0
same_word a b k fits_a fits_b bits =
    same_from_bits_below 64 (get_or a k 0) (get_or b k 0) fits_a fits_b (λ i li. at a b k i li (bits (k * 64 + i)))
  where
    at : (a b : List ℕ) (k i : ℕ) → i < 64 → has_bit a (k * 64 + i) ≡ has_bit b (k * 64 + i) → bit_at (get_or a k 0) i ≡ bit_at (get_or b k 0) i
    at a b k i li e =
        let q : (k * 64 + i) / 64 ≡ k = omega arith in
        let r : (k * 64 + i) % 64 ≡ i = omega arith in
        same_bit (bit_at (get_or a k 0) i) (bit_at (get_or b k 0) i) (bit_at-lt (get_or a k 0) i) (bit_at-lt (get_or b k 0) i)
        (ap (λ n. eqb (bit_at (get_or a n 0) i) 1) (sym q) ∙ ap (λ m. eqb (bit_at (get_or a ((k * 64 + i) / 64) 0) m) 1) (sym r) ∙ e ∙
        ap (λ m. eqb (bit_at (get_or b ((k * 64 + i) / 64) 0) m) 1) r ∙ ap (λ n. eqb (bit_at (get_or b n 0) i) 1) q)
