-- Laws of bits and of counts that the crates above need as well.
use Rattle.std.proofs.Common.{◌≡◌, ◌≢◌, ℕ, suc, zero, ◌+◌, ◌/◌, ◌%◌, ◌<◌, ◌≤◌, List, get_or, replicate, refl, inl, inr, arith, Bool, true, false}
use Rattle.std.proofs.lemmas.Bool.{cases_eq, cases_Bool}
use Rattle.std.proofs.lemmas.List.{get_or_past}
use Rattle.std.proofs.lemmas.Nat.Bits.{bit_at-zero}
use Rattle.ld_facts.specs.Inside.Bits.{has_bit, count_below}

-- no bit is set in words that are 0
pub has_bit-zeros : (words : List ℕ) (k : ℕ) → ((i : ℕ) → get_or words i 0 ≡ 0) → has_bit words k ≡ false
has_bit-zeros words k zeros = rw (zeros (k / 64), bit_at-zero (k % 64)) refl

pub zeros_at : (n i : ℕ) → ◌≡◌ {A = ℕ} (get_or (replicate n 0) i 0) 0
zeros_at n i =
    elim (Rattle.std.proofs.lemmas.Bool.cases_lt i n) [
      | inl l ↦ Rattle.std.proofs.lemmas.List.get_or-replicate n i 0 0 l
      | inr l ↦ get_or_past (replicate n 0) i 0 (omega (arith, Rattle.std.proofs.lemmas.List.length-replicate {A = ℕ} n 0))
    ]

-- ---- counts
pub count_below-le : (f : ℕ → Bool) (n : ℕ) → count_below f n ≤ n
unfolding count_below
count_below-le f zero = omega arith
count_below-le f (suc n) =
    elim (cases_Bool (f n)) [
      | inl t ↦ rw t (omega (arith, count_below-le f n))
      | inr t ↦ rw t (omega (arith, count_below-le f n))
    ]

pub count_below-same : (f g : ℕ → Bool) (n : ℕ) → ((k : ℕ) → k < n → g k ≡ f k) → count_below g n ≡ count_below f n
unfolding count_below
count_below-same f g zero h = refl
count_below-same f g (suc n) h = rw (h n (omega arith), count_below-same f g n (λ k l. h k (omega arith))) refl

-- one more number passes
pub count_below-one_more : (f g : ℕ → Bool) (p n : ℕ) → p < n → f p ≡ false → g p ≡ true → ((k : ℕ) → k ≢ p → g k ≡ f k) →
    count_below g n ≡ count_below f n + 1
unfolding count_below
count_below-one_more f g p zero l off on others = absurd (omega arith)
count_below-one_more f g p (suc n) l off on others =
    elim (cases_eq n p) [
      | inl e ↦
          let gn : g n ≡ true = rw e on in
          let fn : f n ≡ false = rw e off in
          rw (gn, fn, count_below-same f g n (λ k m. others k (omega arith))) (omega arith)
      | inr d ↦
          let before : count_below g n ≡ count_below f n + 1 = count_below-one_more f g p n (omega arith) off on others in
          rw (others n d, before) (omega arith)
    ]

-- a number that doesn't pass leaves room
pub count_below-room : (f : ℕ → Bool) (p n : ℕ) → p < n → f p ≡ false → count_below f n < n
unfolding count_below
count_below-room f p zero l off = absurd (omega arith)
count_below-room f p (suc n) l off =
    elim (cases_eq n p) [
      | inl e ↦ let fn : f n ≡ false = rw e off in rw fn (omega (arith, count_below-le f n))
      | inr d ↦
          elim (cases_Bool (f n)) [
            | inl t ↦ rw t (omega (arith, count_below-room f p n (omega arith) off))
            | inr t ↦ rw t (omega (arith, count_below-room f p n (omega arith) off))
          ]
    ]
