-- What a write, a union and the finding of a bit leave.
use Rattle.ld_facts.proofs.Names.{◌%◌, ◌&&◌, ◌*◌, ◌+◌, ◌-◌, ◌/◌, ◌<◌, ◌^◌, ◌||◌, ◌∙◌, ◌≡◌, ◌≢◌, ◌≤◌, Bool, List, ap, arith, bit_and, bit_at, bit_at-lt, bit_at-trailing_zeros, bit_at-zero, bit_at_above, bit_at_and, bit_at_not, bit_at_or, bit_at_set_other, bit_at_set_same, bit_not, bit_or, cases_Bool, cases_eq, cases_lt, cond, count_below-one_more, count_below-same, count_ones, div-div-eq-div-mul, div-lt_iff_lt-mul, eq-eqb, eqb, eqb-true, false, get_or, get_or-set_other, get_or-set_same, get_or_past, has_bit, inl, inr, length, max, min, mod-pow-add, ne_eqb, not, ones_cat, ones_le_self, pow-add, pow_mono, pow_pos, refl, set, subst, suc, sym, trailing_zeros, true, w64, zero, zero_from_ones, ℕ}
use Rattle.std.proofs.Common.{mod-lt}
use Rattle.ld_facts.specs.Inside.Bits.{count_below}

-- the word of bit n with bit n set
abbrev pub with_bit : List ℕ → ℕ → ℕ
with_bit words n = bit_or (get_or words (n / 64) 0) (1 * 2 ^ (n % 64) % 18446744073709551616)

pub has_bit-insert_same : (words : List ℕ) (n : ℕ) → n < 64 * length words → has_bit (set words (n / 64) (with_bit words n)) n ≡ true
has_bit-insert_same words n h =
    let within : n / 64 < length words = omega arith in
    rw (get_or-set_same words (n / 64) (with_bit words n) 0 within)
    (eq-eqb _ 1 (bit_at_set_same w64 (get_or words (n / 64) 0) (n % 64) (omega arith)))

pub has_bit-insert_other : (words : List ℕ) (n k : ℕ) → n < 64 * length words → k ≢ n → has_bit (set words (n / 64) (with_bit words n)) k ≡ has_bit words k
has_bit-insert_other words n k h ne =
    elim (cases_eq (k / 64) (n / 64)) [
      | inr d ↦ rw (get_or-set_other words (n / 64) (k / 64) (with_bit words n) 0 d) refl
      | inl e ↦
          let within : n / 64 < length words = omega arith in
          let other : k % 64 ≢ n % 64 = λ r. ne (omega arith) in
          rw (e, get_or-set_same words (n / 64) (with_bit words n) 0 within)
          (ap (λ x. eqb x 1) (bit_at_set_other w64 (get_or words (n / 64) 0) (n % 64) (omega arith) (k % 64) other))
    ]

-- the bits of `x & !y`
pub bit_at_beyond : (x y i : ℕ) → y < 2 ^ 64 → i < 64 → bit_at (bit_and x (bit_not w64 y)) i ≡ min (bit_at x i) (1 - bit_at y i)
bit_at_beyond x y i ly li = bit_at_and x (bit_not w64 y) i ∙ ap (λ z. min (bit_at x i) z) (bit_at_not w64 y i ly li)

beyond-le : (x y : ℕ) → bit_and x y ≤ x
beyond-le x y = Rattle.std.proofs.lemmas.Nat.and_le_l x y

-- the lowest bit of `x & !y` is set in x and not in y
pub beyond_found : (words taken : List ℕ) (i : ℕ) → i < length words →
    get_or words i 0 < 2 ^ 64 → get_or taken i 0 < 2 ^ 64 →
    bit_and (get_or words i 0) (bit_not w64 (get_or taken i 0)) ≢ 0 →
    let p = i * 64 + trailing_zeros w64 (bit_and (get_or words i 0) (bit_not w64 (get_or taken i 0))) in
    (p < 64 * length words) × (has_bit words p ≡ true) × (has_bit taken p ≡ false)
beyond_found words taken i li lx ly some =
    let x : ℕ = get_or words i 0 in
    let y : ℕ = get_or taken i 0 in
    let fresh : ℕ = bit_and x (bit_not w64 y) in
    let below : fresh < 2 ^ 64 = omega (arith, beyond-le x (bit_not w64 y)) in
    let low : (trailing_zeros w64 fresh < 64) × (bit_at fresh (trailing_zeros w64 fresh) ≡ 1) × ((j : ℕ) → j < trailing_zeros w64 fresh → bit_at fresh j ≡ 0) =
    bit_at-trailing_zeros w64 fresh (omega arith) below in
    let t : ℕ = trailing_zeros w64 fresh in
    found words taken i t x y refl refl li low.0 (sym (bit_at_beyond x y t ly low.0) ∙ low.1)
  where
    found : (words taken : List ℕ) (i t x y : ℕ) → get_or words i 0 ≡ x → get_or taken i 0 ≡ y → i < length words → t < 64 →
        min (bit_at x t) (1 - bit_at y t) ≡ 1 →
        (i * 64 + t < 64 * length words) × (has_bit words (i * 64 + t) ≡ true) × (has_bit taken (i * 64 + t) ≡ false)
    found words taken i t x y ex ey li lt e =
        let q : (i * 64 + t) / 64 ≡ i = omega arith in
        let r : (i * 64 + t) % 64 ≡ t = omega arith in (
          omega arith,
          rw (q, r, ex) (eq-eqb (bit_at x t) 1 (omega (arith, bit_at-lt x t, e))),
          rw (q, r, ey) (ne_eqb (bit_at y t) 1 (omega (arith, bit_at-lt y t, e))),
        )

-- a bit that is not beyond the other's is one of them
none_beyond : (words taken : List ℕ) (k : ℕ) → get_or taken (k / 64) 0 < 2 ^ 64 →
    bit_at (bit_and (get_or words (k / 64) 0) (bit_not w64 (get_or taken (k / 64) 0))) (k % 64) ≡ 0 →
    has_bit words k ≡ true → has_bit taken k ≡ true
none_beyond words taken k fits at set =
    let x : ℕ = get_or words (k / 64) 0 in
    let y : ℕ = get_or taken (k / 64) 0 in
    let is : bit_at x (k % 64) ≡ 1 = eqb-true (bit_at x (k % 64)) 1 set in
    let m : min (bit_at x (k % 64)) (1 - bit_at y (k % 64)) ≡ 0 = sym (bit_at_beyond x y (k % 64) fits (omega arith)) ∙ at in
    eq-eqb (bit_at y (k % 64)) 1 (omega (arith, bit_at-lt y (k % 64), m, is))

-- the lowest bit of the first word with a bit beyond the other's is the first such bit
pub beyond_first : (words taken : List ℕ) (i : ℕ) → get_or words i 0 < 2 ^ 64 → ((k : ℕ) → k ≤ i → get_or taken k 0 < 2 ^ 64) →
    ((k : ℕ) → k < i → bit_and (get_or words k 0) (bit_not w64 (get_or taken k 0)) ≡ 0) →
    bit_and (get_or words i 0) (bit_not w64 (get_or taken i 0)) ≢ 0 →
    (k : ℕ) → k < i * 64 + trailing_zeros w64 (bit_and (get_or words i 0) (bit_not w64 (get_or taken i 0))) →
    has_bit words k ≡ true → has_bit taken k ≡ true
beyond_first words taken i fits ranges empty some k lk =
    let fresh : ℕ = bit_and (get_or words i 0) (bit_not w64 (get_or taken i 0)) in
    let below : fresh < 2 ^ 64 = omega (arith, beyond-le (get_or words i 0) (bit_not w64 (get_or taken i 0))) in
    let low : (trailing_zeros w64 fresh < 64) × (bit_at fresh (trailing_zeros w64 fresh) ≡ 1) × ((j : ℕ) → j < trailing_zeros w64 fresh → bit_at fresh j ≡ 0) =
    bit_at-trailing_zeros w64 fresh (omega arith) below in
    let upto : k / 64 ≤ i = omega (arith, low.0) in
    none_beyond words taken k (ranges (k / 64) upto) (elim (cases_lt (k / 64) i) [
      | inl before ↦ rw (empty (k / 64) before) (bit_at-zero (k % 64))
      | inr past ↦
          let word : k / 64 ≡ i = omega arith in
          rw word (low.2 (k % 64) (omega arith))
    ])

-- if no word has a bit beyond the other's, each bit of the one is a bit of the other
pub beyond_none : (words taken : List ℕ) (n : ℕ) → n ≡ length words →
    ((k : ℕ) → k < length words → get_or taken k 0 < 2 ^ 64) →
    ((k : ℕ) → k < n → bit_and (get_or words k 0) (bit_not w64 (get_or taken k 0)) ≡ 0) →
    (k : ℕ) → has_bit words k ≡ true → has_bit taken k ≡ true
beyond_none words taken n e ranges empty k set =
    elim (Rattle.std.proofs.lemmas.Bool.cases_lt (k / 64) (length words)) [
      | inl within ↦
          none_beyond words taken k (ranges (k / 64) within) (rw (empty (k / 64) (omega arith)) (bit_at-zero (k % 64))) set
      | inr past ↦
          let zero : get_or words (k / 64) 0 ≡ 0 = Rattle.std.proofs.lemmas.List.get_or_past words (k / 64) 0 past in
          let is : bit_at (get_or words (k / 64) 0) (k % 64) ≡ 1 = eqb-true (bit_at (get_or words (k / 64) 0) (k % 64)) 1 set in
          absurd (let none : bit_at (get_or words (k / 64) 0) (k % 64) ≡ 0 = rw zero (bit_at-zero (k % 64)) in omega arith)
    ]

-- the bits of a union
or_bit : (a b : ℕ) → a < 2 → b < 2 → eqb (max a b) 1 ≡ (eqb a 1 || eqb b 1)
or_bit a b la lb =
    elim (cases_eq a 1) [
      | inl e ↦ rw (eq-eqb a 1 e) (eq-eqb (max a b) 1 (omega arith))
      | inr n ↦ elim (cases_eq b 1) [
        | inl e ↦ rw (ne_eqb a 1 n, eq-eqb b 1 e) (eq-eqb (max a b) 1 (omega arith))
        | inr m ↦ rw (ne_eqb a 1 n, ne_eqb b 1 m) (ne_eqb (max a b) 1 (omega arith))
      ]
    ]

pub has_bit-or : (new old other : List ℕ) (k : ℕ) → get_or new (k / 64) 0 ≡ bit_or (get_or old (k / 64) 0) (get_or other (k / 64) 0) →
    has_bit new k ≡ (has_bit old k || has_bit other k)
has_bit-or new old other k e =
    rw (e, bit_at_or (get_or old (k / 64) 0) (get_or other (k / 64) 0) (k % 64))
    (or_bit (bit_at (get_or old (k / 64) 0) (k % 64)) (bit_at (get_or other (k / 64) 0) (k % 64)) (bit_at-lt (get_or old (k / 64) 0) (k % 64)) (bit_at-lt (get_or other (k / 64) 0) (k % 64)))

pub has_bit-union : (new old other : List ℕ) → length new ≡ length old → length old ≡ length other →
    ((k : ℕ) → k < length old → get_or new k 0 ≡ bit_or (get_or old k 0) (get_or other k 0)) →
    (k : ℕ) → has_bit new k ≡ (has_bit old k || has_bit other k)
has_bit-union new old other e f each k =
    elim (Rattle.std.proofs.lemmas.Bool.cases_lt (k / 64) (length old)) [
      | inl within ↦ has_bit-or new old other k (each (k / 64) within)
      | inr past ↦ has_bit-or new old other k
          (rw (get_or_past new (k / 64) 0 (omega arith), get_or_past old (k / 64) 0 past, get_or_past other (k / 64) 0 (omega arith)) refl)
    ]

-- the bits of an intersection
and_bit : (a b : ℕ) → a < 2 → b < 2 → eqb (min a b) 1 ≡ (eqb a 1 && eqb b 1)
and_bit a b la lb =
    elim (cases_eq a 1) [
      | inr n ↦ rw (ne_eqb a 1 n) (ne_eqb (min a b) 1 (omega arith))
      | inl e ↦ elim (cases_eq b 1) [
        | inl f ↦ rw (eq-eqb a 1 e, eq-eqb b 1 f) (eq-eqb (min a b) 1 (omega arith))
        | inr m ↦ rw (eq-eqb a 1 e, ne_eqb b 1 m) (ne_eqb (min a b) 1 (omega arith))
      ]
    ]

not_bit : (b : ℕ) → b < 2 → eqb (1 - b) 1 ≡ not (eqb b 1)
not_bit b lb =
    elim (cases_eq b 1) [
      | inl e ↦ rw (eq-eqb b 1 e) (ne_eqb (1 - b) 1 (omega arith))
      | inr n ↦ rw (ne_eqb b 1 n) (eq-eqb (1 - b) 1 (omega arith))
    ]

past_bit : (words : List ℕ) (k : ℕ) → length words ≤ k / 64 → has_bit words k ≡ false
past_bit words k past =
    let zero : get_or words (k / 64) 0 ≡ 0 = get_or_past words (k / 64) 0 past in
    rw (zero, bit_at-zero (k % 64)) refl

pub has_bit-intersection : (new old other : List ℕ) → length new ≡ length old →
    ((k : ℕ) → k < length old → get_or new k 0 ≡ bit_and (get_or old k 0) (get_or other k 0)) →
    (k : ℕ) → has_bit new k ≡ (has_bit old k && has_bit other k)
has_bit-intersection new old other len each k =
    elim (Rattle.std.proofs.lemmas.Bool.cases_lt (k / 64) (length old)) [
      | inl within ↦
          rw (each (k / 64) within, bit_at_and (get_or old (k / 64) 0) (get_or other (k / 64) 0) (k % 64))
          (and_bit (bit_at (get_or old (k / 64) 0) (k % 64)) (bit_at (get_or other (k / 64) 0) (k % 64)) (bit_at-lt (get_or old (k / 64) 0) (k % 64)) (bit_at-lt (get_or other (k / 64) 0) (k % 64)))
      | inr past ↦ rw (past_bit new k (omega arith), past_bit old k past) refl
    ]

pub has_bit-difference : (new old other : List ℕ) → length new ≡ length old → ((k : ℕ) → get_or other k 0 < 2 ^ 64) →
    ((k : ℕ) → k < length old → get_or new k 0 ≡ bit_and (get_or old k 0) (bit_not w64 (get_or other k 0))) →
    (k : ℕ) → has_bit new k ≡ (has_bit old k && not (has_bit other k))
has_bit-difference new old other len fits each k =
    elim (Rattle.std.proofs.lemmas.Bool.cases_lt (k / 64) (length old)) [
      | inl within ↦
          let x : ℕ = get_or old (k / 64) 0 in
          let y : ℕ = get_or other (k / 64) 0 in
          ap (λ w. eqb (bit_at w (k % 64)) 1) (each (k / 64) within) ∙
          ap (λ b. eqb b 1) (bit_at_beyond x y (k % 64) (fits (k / 64)) (omega arith)) ∙
          and_bit (bit_at x (k % 64)) (1 - bit_at y (k % 64)) (bit_at-lt x (k % 64)) (omega arith) ∙
          ap (λ b. eqb (bit_at x (k % 64)) 1 && b) (not_bit (bit_at y (k % 64)) (bit_at-lt y (k % 64)))
      | inr past ↦ rw (past_bit new k (omega arith), past_bit old k past) refl
    ]

-- a bit that is set is one of the words
pub has_bit-within : (words : List ℕ) (k : ℕ) → has_bit words k ≡ true → k < 64 * length words
has_bit-within words k set =
    elim (Rattle.std.proofs.lemmas.Bool.cases_lt (k / 64) (length words)) [
      | inl within ↦ omega arith
      | inr past ↦
          let zero : get_or words (k / 64) 0 ≡ 0 = get_or_past words (k / 64) 0 past in
          let is : bit_at (get_or words (k / 64) 0) (k % 64) ≡ 1 = eqb-true (bit_at (get_or words (k / 64) 0) (k % 64)) 1 set in
          absurd (let none : bit_at (get_or words (k / 64) 0) (k % 64) ≡ 0 = rw zero (bit_at-zero (k % 64)) in omega arith)
    ]

-- ---- counts
pub count_below-none : (f : ℕ → Bool) (n : ℕ) → ((k : ℕ) → f k ≡ false) → count_below f n ≡ 0
unfolding count_below
count_below-none f zero h = refl
count_below-none f (suc n) h = rw (h n, count_below-none f n h) refl

-- a number passes from now on
pub count_below-set : (f g : ℕ → Bool) (p n : ℕ) → p < n → g p ≡ true → ((k : ℕ) → k ≢ p → g k ≡ f k) →
    count_below g n ≡ count_below f n + cond (not (f p)) 1 0
count_below-set f g p n l on others =
    elim (cases_Bool (f p)) [
      | inl t ↦ rw t (count_below-same f g n (λ k m. elim (cases_eq k p) [ inl e ↦ ap g e ∙ on ∙ sym (ap f e ∙ t) | inr d ↦ others k d ]) ∙ omega arith)
      | inr t ↦ rw t (count_below-one_more f g p n l t on others)
    ]

-- the ones of a word are its bits that are set
one_bit : (b : ℕ) → b < 2 → count_ones b ≡ cond (eqb b 1) 1 0
one_bit b l =
    elim (cases_eq b 1) [
      | inl e ↦
          let some : count_ones 1 ≢ 0 = λ none. absurd (let z : 1 ≡ 0 = zero_from_ones 1 none in omega arith) in
          let most : count_ones 1 ≤ 1 = ones_le_self 1 in
          rw e (omega arith)
      | inr n ↦
          let z : b ≡ 0 = omega arith in
          let most : count_ones 0 ≤ 0 = ones_le_self 0 in
          rw z (omega arith)
    ]

low_ones : (w n : ℕ) → count_ones (w % 2 ^ n) ≡ count_below (λ k. eqb (bit_at w k) 1) n
unfolding count_below
low_ones w zero =
    let none : w % 2 ^ 0 ≡ 0 = omega arith in
    let most : count_ones 0 ≤ 0 = ones_le_self 0 in
    rw none (omega arith)
low_ones w (suc n) =
    let low : w % 2 ^ n < 2 ^ n = mod-lt w (pow_pos n) in
    ap (λ x. count_ones (w % 2 ^ x)) (let e : suc n ≡ 1 + n = omega arith in e) ∙
    ap count_ones (mod-pow-add w 1 n) ∙
    ones_cat n (bit_at w n) (w % 2 ^ n) low ∙
    omega (arith, one_bit (bit_at w n) (bit_at-lt w n), low_ones w n)

count_below-add : (f : ℕ → Bool) (n m : ℕ) → count_below f (n + m) ≡ count_below f n + count_below (λ k. f (n + k)) m
unfolding count_below
count_below-add f n zero = ap (count_below f) (let e : n + 0 ≡ n = omega arith in e) ∙ omega arith
count_below-add f n (suc m) =
    ap (count_below f) (let e : n + suc m ≡ suc (n + m) = omega arith in e) ∙
    omega (arith, count_below-add f n m)

-- one word more
pub count_below-word : (words : List ℕ) (i : ℕ) → get_or words i 0 < 2 ^ 64 →
    count_below (has_bit words) (64 * (i + 1)) ≡ count_below (has_bit words) (64 * i) + count_ones (get_or words i 0)
count_below-word words i fits =
    let w : ℕ = get_or words i 0 in
    let whole : w % 2 ^ 64 ≡ w = omega arith in
    let bits : count_below (λ k. has_bit words (64 * i + k)) 64 ≡ count_below (λ k. eqb (bit_at w k) 1) 64 =
    count_below-same (λ k. eqb (bit_at w k) 1) (λ k. has_bit words (64 * i + k)) 64 (λ k l.
    let q : (64 * i + k) / 64 ≡ i = omega arith in
    let r : (64 * i + k) % 64 ≡ k = omega arith in
    rw (q, r) refl) in
    ap (count_below (has_bit words)) (let e : 64 * (i + 1) ≡ 64 * i + 64 = omega arith in e) ∙
    count_below-add (has_bit words) (64 * i) 64 ∙
    ap (λ n. count_below (has_bit words) (64 * i) + n) (bits ∙ sym (low_ones w 64) ∙ ap count_ones whole)

-- ---- the first bit from a place on
bit_at-shifted : (w a j : ℕ) → bit_at (w / 2 ^ a) j ≡ bit_at w (a + j)
bit_at-shifted w a j = ap (λ x. x % 2) (div-div-eq-div-mul w (2 ^ a) (2 ^ j) ∙ ap (λ x. w / x) (sym (pow-add 2 a j)))

-- a bit of the word of another, from that one on
bit_from : (words : List ℕ) (at k : ℕ) → at ≤ k → k < at + (64 - at % 64) →
    has_bit words k ≡ eqb (bit_at (get_or words (at / 64) 0 / 2 ^ (at % 64)) (k - at)) 1
bit_from words at k la lb =
    let word : k / 64 ≡ at / 64 = omega arith in
    let bit : k % 64 ≡ at % 64 + (k - at) = omega arith in
    rw (word, bit, bit_at-shifted (get_or words (at / 64) 0) (at % 64) (k - at)) refl

pub none_left : (words : List ℕ) (at k : ℕ) → get_or words (at / 64) 0 / 2 ^ (at % 64) ≡ 0 → at ≤ k → k < at + (64 - at % 64) →
    has_bit words k ≡ false
none_left words at k none la lb = bit_from words at k la lb ∙ rw (none, bit_at-zero (k - at)) refl

-- no bit of a word without one
pub none_in : (words : List ℕ) (i k : ℕ) → get_or words i 0 ≡ 0 → 64 * i ≤ k → k < 64 * (i + 1) → has_bit words k ≡ false
none_in words i k none la lb = rw ((let at : k / 64 ≡ i = omega (arith, la, lb) in at), none, bit_at-zero (k % 64)) refl

pub record IsFirstFrom (words : List ℕ) (at bit : ℕ) : Type 0 where
  pub near : bit < at + (64 - at % 64)
  pub set : has_bit words bit ≡ true
  pub before : (k : ℕ) → at ≤ k → k < bit → has_bit words k ≡ false

pub first_left : (words : List ℕ) (at rest : ℕ) → get_or words (at / 64) 0 < 2 ^ 64 → rest ≡ get_or words (at / 64) 0 / 2 ^ (at % 64) → rest ≢ 0 →
    IsFirstFrom words at (at + trailing_zeros w64 rest)
first_left words at rest fits is some =
    let a : ℕ = at % 64 in
    let whole : 2 ^ (64 - a) * 2 ^ a ≡ 2 ^ 64 = sym (pow-add 2 (64 - a) a) ∙ ap (λ k. 2 ^ k) (let l : 64 - a + a ≡ 64 = omega arith in l) in
    let short : rest < 2 ^ (64 - a) = subst (λ x. x < 2 ^ (64 - a)) (sym is) ((div-lt_iff_lt-mul (pow_pos a)).1 (subst (λ x. get_or words (at / 64) 0 < x) (sym whole) fits)) in
    let small : rest < 2 ^ 64 = omega (arith, pow_mono {i = 64 - a} {j = 64} (omega arith)) in
    let low : (trailing_zeros w64 rest < 64) × (bit_at rest (trailing_zeros w64 rest) ≡ 1) × ((j : ℕ) → j < trailing_zeros w64 rest → bit_at rest j ≡ 0) =
    bit_at-trailing_zeros w64 rest (omega arith) small in
    let t : ℕ = trailing_zeros w64 rest in
    let near : t < 64 - a = elim (cases_lt t (64 - a)) [
      | inl l ↦ l
      | inr g ↦ absurd (let off = bit_at_above rest (64 - a) t short g in let on = low.1 in omega arith)
    ] in record {
      near = omega arith;
      set = bit_from words at (at + t) (omega arith) (omega arith) ∙
          ap (λ x. eqb x 1) (ap (λ w. bit_at w (at + t - at)) (sym is) ∙ ap (bit_at rest) (let e : at + t - at ≡ t = omega arith in e)) ∙ eq-eqb (bit_at rest t) 1 low.1;
      before = λ k la lb. bit_from words at k la (omega arith) ∙
          ap (λ x. eqb x 1) (ap (λ w. bit_at w (k - at)) (sym is) ∙ low.2 (k - at) (omega arith));
    }
