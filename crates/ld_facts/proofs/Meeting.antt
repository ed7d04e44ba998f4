-- A bit that is set in both of two rows.
use Rattle.ld_facts.proofs.Names.{◌%◌, ◌*◌, ◌+◌, ◌/◌, ◌<◌, ◌^◌, ◌∙◌, ◌≡◌, ◌≢◌, ◌≤◌, List, ap, arith, bit_and, bit_at, bit_at-lt, bit_at-trailing_zeros, bit_at-zero, bit_at_and, eq-eqb, eqb-true, get_or, has_bit, length, min, sym, trailing_zeros, true, w64, ℕ}
use Rattle.ld_facts.proofs.BitLemmas.{has_bit-within}
use Rattle.ld_facts.proofs.Uniting.{has_bit-at}

-- the lowest bit of `x & y` is set in both
pub meet_found : (row other : List ℕ) (i : ℕ) → get_or row i 0 < 2 ^ 64 → bit_and (get_or row i 0) (get_or other i 0) ≢ 0 →
    (k : ℕ) × (has_bit row k ≡ true) × (has_bit other k ≡ true)
meet_found row other i lx some =
    let x : ℕ = get_or row i 0 in
    let y : ℕ = get_or other i 0 in
    let both : ℕ = bit_and x y in
    let le : both ≤ x = Rattle.std.proofs.lemmas.Nat.and_le_l x y in
    let low : (trailing_zeros w64 both < 64) × (bit_at both (trailing_zeros w64 both) ≡ 1) × ((j : ℕ) → j < trailing_zeros w64 both → bit_at both j ≡ 0) =
    bit_at-trailing_zeros w64 both (omega arith) (omega arith) in
    let t : ℕ = trailing_zeros w64 both in
    let one : min (bit_at x t) (bit_at y t) ≡ 1 = sym (bit_at_and x y t) ∙ low.1 in (
      i * 64 + t,
      has_bit-at row i t low.0 ∙ eq-eqb (bit_at x t) 1 (omega (arith, bit_at-lt x t, bit_at-lt y t, one)),
      has_bit-at other i t low.0 ∙ eq-eqb (bit_at y t) 1 (omega (arith, bit_at-lt x t, bit_at-lt y t, one)),
    )

-- if no word has a bit of both, no bit is set in both
pub meet_none : (row other : List ℕ) (n : ℕ) → length row ≤ n → ((k : ℕ) → k < n → bit_and (get_or row k 0) (get_or other k 0) ≡ 0) →
    (k : ℕ) → has_bit row k ≡ true → has_bit other k ≡ true → ⊥
meet_none row other n all empty k a b =
    let within : k < 64 * length row = has_bit-within row k a in
    let x : ℕ = get_or row (k / 64) 0 in
    let y : ℕ = get_or other (k / 64) 0 in
    let on_x : bit_at x (k % 64) ≡ 1 = eqb-true (bit_at x (k % 64)) 1 a in
    let on_y : bit_at y (k % 64) ≡ 1 = eqb-true (bit_at y (k % 64)) 1 b in
    let none : min (bit_at x (k % 64)) (bit_at y (k % 64)) ≡ 0 =
    sym (bit_at_and x y (k % 64)) ∙ ap (λ z. bit_at z (k % 64)) (empty (k / 64) (omega arith)) ∙ bit_at-zero (k % 64) in
    omega (arith, none, on_x, on_y)
