-- Laws of words of facts that the proofs of the crates above cite.
use Rattle.std.specs.Prelude.{◌≡◌, ◌≢◌, ℕ, suc, ◌+◌, ◌*◌, ◌/◌, ◌%◌, ◌^◌, ◌<◌, ◌⊎◌, ◌↔◌, Bool, ◌==◌, if◌then◌else◌, List, [], ◌∷◌, ◌++◌, length, All, bit_or}
use Rattle.std.specs.Int.{bit_at}
use Rattle.std.proofs.Common.{◌∙◌, refl, ap, sym, subst, inl, inr, arith, max, get_or, eq-eqb}
use Rattle.std.proofs.lemmas.Bool.{cases_eq, cases_lt, ne_eqb}
use Rattle.std.proofs.lemmas.Nat.Bits.{bit_at_or, bit_at-zero, bit_at-lt, bit_at_above, same_from_bits}
use Rattle.ld_facts.specs.Facts.{Holds}
use Rattle.ld_facts.specs.Laws.{EachBitIsAFacts}
use Rattle.ld_facts.specs.Numbers.{bit_total, fact_number}
use Rattle.ld_facts.specs.WordPairs.{bits_of, Within, PairsHave, NonePast}
use Rattle.ld_facts.specs.declared.fact.Fact.{Fact}

-- ---- unions of bits
-- a bit of a union is a bit of one of the two
pub bit_or-bits : (a b k : ℕ) → (bit_at (bit_or a b) k ≡ 1) ↔ ((bit_at a k ≡ 1) ⊎ (bit_at b k ≡ 1))
bit_or-bits a b k = (
  (λ h. let m : max (bit_at a k) (bit_at b k) ≡ 1 = sym (bit_at_or a b k) ∙ h in
      elim (cases_eq (bit_at a k) 1) [
        | inl e ↦ inl e
        | inr ne ↦ inr (omega (arith, bit_at-lt a k, bit_at-lt b k, m))
      ]),
  (λ h. bit_at_or a b k ∙ elim h [
    | inl e ↦ omega (arith, bit_at-lt b k, e)
    | inr e ↦ omega (arith, bit_at-lt a k, e)
  ]),
)

pub or_zero : (a : ℕ) → bit_or a 0 ≡ a
or_zero a = same_from_bits (bit_or a 0) a (λ k. omega (arith, bit_at_or a 0 k, bit_at-zero k))

pub or_assoc : (a b c : ℕ) → bit_or (bit_or a b) c ≡ bit_or a (bit_or b c)
or_assoc a b c =
    same_from_bits (bit_or (bit_or a b) c) (bit_or a (bit_or b c))
    (λ k. omega (arith, bit_at_or (bit_or a b) c k, bit_at_or a b k, bit_at_or a (bit_or b c) k, bit_at_or b c k))

-- what is within has no bit of its own
pub Within-bit : (a b k : ℕ) → Within a b → bit_at a k ≡ 1 → bit_at b k ≡ 1
Within-bit a b k within on = ap (λ c. bit_at c k) (sym within) ∙ (bit_or-bits a b k).1 (inl on)

pub Within-from_bits : (a b : ℕ) → ((k : ℕ) → bit_at a k ≡ 1 → bit_at b k ≡ 1) → Within a b
Within-from_bits a b up = same_from_bits (bit_or a b) b (λ k.
    elim (cases_eq (bit_at a k) 1) [
      | inl e ↦ omega (arith, bit_at_or a b k, up k e, e)
      | inr ne ↦ omega (arith, bit_at_or a b k, bit_at-lt a k)
    ])

-- ---- pairs
-- the bits of a pair for word n, if it is of that word
abbrev pub bits_if : ℕ → ℕ × ℕ → ℕ
bits_if n p = if n == p.0 then p.1 else 0

pub bits_of-append : (n : ℕ) (ps qs : List (ℕ × ℕ)) → bits_of n (ps ++ qs) ≡ bit_or (bits_of n ps) (bits_of n qs)
bits_of-append n [] qs = refl
bits_of-append n (p ∷ ps) qs = ap (bit_or (bits_if n p)) (bits_of-append n ps qs) ∙ sym (or_assoc (bits_if n p) (bits_of n ps) (bits_of n qs))

-- a bit of the pair's own word, and no bit of another
pub bits_if-same : (n : ℕ) (p : ℕ × ℕ) → n ≡ p.0 → bits_if n p ≡ p.1
bits_if-same n p e = ap (λ (b : Bool). if b then p.1 else 0) (eq-eqb n p.0 e)

pub bits_if-other : (n : ℕ) (p : ℕ × ℕ) → n ≢ p.0 → bits_if n p ≡ 0
bits_if-other n p ne = ap (λ (b : Bool). if b then p.1 else 0) (ne_eqb n p.0 ne)

-- some pair has the bit
abbrev pub SomePairHas : ℕ → ℕ → List (ℕ × ℕ) → Type 0
SomePairHas n k ps = (i : ℕ) × (i < length ps) × ((d : ℕ × ℕ) → (n ≡ (get_or ps i d).0) × (bit_at (get_or ps i d).1 k ≡ 1))

pub bits_of-bit : (n k : ℕ) (ps : List (ℕ × ℕ)) → bit_at (bits_of n ps) k ≡ 1 → SomePairHas n k ps
bits_of-bit n k [] on = absurd (omega (arith, bit_at-zero k))
bits_of-bit n k (p ∷ ps) on =
    elim ((bit_or-bits (bits_if n p) (bits_of n ps) k).0 on) [
      | inr later ↦ let (i, l, at) = bits_of-bit n k ps later in (suc i, omega arith, at)
      | inl here ↦ elim (cases_eq n p.0) [
        | inl e ↦ (0, omega arith, λ d. (e, ap (λ b. bit_at b k) (sym (bits_if-same n p e)) ∙ here))
        | inr ne ↦ absurd (let z : bit_at (bits_if n p) k ≡ 0 = ap (λ b. bit_at b k) (bits_if-other n p ne) ∙ bit_at-zero k in omega arith)
      ]
    ]

-- the pairs' facts are those of both lists
pub PairsHave-append : (keys : ℕ) (ps qs : List (ℕ × ℕ)) (x : Fact) →
    PairsHave keys (ps ++ qs) x ↔ (PairsHave keys ps x ⊎ PairsHave keys qs x)
PairsHave-append keys ps qs x =
    let n : ℕ = fact_number keys x / 64 in
    let k : ℕ = fact_number keys x % 64 in
    let both = bit_or-bits (bits_of n ps) (bits_of n qs) k in
    let is : bit_at (bits_of n (ps ++ qs)) k ≡ bit_at (bit_or (bits_of n ps) (bits_of n qs)) k = ap (λ b. bit_at b k) (bits_of-append n ps qs) in (
      (λ (below, on). elim (both.0 (sym is ∙ on)) [ inl a ↦ inl (below, a) | inr b ↦ inr (below, b) ]),
      (λ h. elim h [
        | inl (below, on) ↦ (below, is ∙ both.1 (inl on))
        | inr (below, on) ↦ (below, is ∙ both.1 (inr on))
      ]),
    )

-- if each word of p is within that of q, q has all facts of p
pub PairsHave-within : (keys : ℕ) (p q : List (ℕ × ℕ)) → ((n : ℕ) → Within (bits_of n p) (bits_of n q)) →
    Holds (PairsHave keys q) (PairsHave keys p)
PairsHave-within keys p q within x (below, on) =
    let n : ℕ = fact_number keys x / 64 in
    (below, Within-bit (bits_of n p) (bits_of n q) (fact_number keys x % 64) (within n) on)

-- and back, if p has words of 64 bits with no bit past the last
pub Within-facts : EachBitIsAFacts → (keys : ℕ) (p q : List (ℕ × ℕ)) → All (λ w. w.1 < 2 ^ 64) p → All (NonePast keys) p →
    Holds (PairsHave keys q) (PairsHave keys p) → (n : ℕ) → Within (bits_of n p) (bits_of n q)
Within-facts each keys p q fits none_past holds n = Within-from_bits (bits_of n p) (bits_of n q) bit
  where
    bit : (k : ℕ) → bit_at (bits_of n p) k ≡ 1 → bit_at (bits_of n q) k ≡ 1
    bit k on =
        let (i, l, at) = bits_of-bit n k p on in
        let w : ℕ × ℕ = get_or p i (0, 0) in
        let here : (n ≡ w.0) × (bit_at w.1 k ≡ 1) = at (0, 0) in
        elim (cases_lt k 64) [
          | inr past ↦ absurd (let z : bit_at w.1 k ≡ 0 = bit_at_above w.1 64 k (fits i (0, 0) l) past in omega (arith, here.1))
          | inl low ↦
              let last : n * 64 + k < bit_total keys = subst (λ m. m * 64 + k < bit_total keys) (sym here.0) (none_past i (0, 0) l k low here.1) in
              let (x, below, is) = each keys (n * 64 + k) last in
              let word : fact_number keys x / 64 ≡ n = omega arith in
              let place : fact_number keys x % 64 ≡ k = omega arith in
              subst (λ m. bit_at (bits_of m q) k ≡ 1) word (subst (λ j. bit_at (bits_of (fact_number keys x / 64) q) j ≡ 1) place
              (holds x (below, subst (λ m. bit_at (bits_of m p) (fact_number keys x % 64) ≡ 1) (sym word) (subst (λ j. bit_at (bits_of n p) j ≡ 1) (sym place) on))).1)
        ]
