-- Pairs of a word and its bits, and what one more bit and one more run add to them.
use Rattle.ld_facts.proofs.Names.{[], ◌%◌, ◌*◌, ◌++◌, ◌+◌, ◌-◌, ◌/◌, ◌<◌, ◌^◌, ◌↔◌, ◌∙◌, ◌∷◌, ◌≡◌, ◌≢◌, ◌≤◌, ◌⊎◌, AreWords, HasBit, HasWord, IsTable, IsTrue, List, MAX_WORDS, SEEN_WORDS, TakesRun, UnitesPair, ap, arith, bit_at, bit_at-pow_other, bit_at-pow_same, bit_at-zero, bit_at_above, bit_at_cat_high, bit_at_cat_low, bit_or, bit_or-bits, bits_if, bits_if-other, bits_if-same, bits_of, bits_of-append, cases_eq, cases_lt, div-add-mod', false, get_or, get_or-set_other, get_or-set_same, get_or_default, has_bit, has_bit-zeros, inl, inr, le_or_l, length, mod-eq_of_lt, or_assoc, or_comm, or_lt, or_zero, pow-lt, pow_pos, replicate, set, suc, sym, zero, zeros_at, ℕ}
use Rattle.std.proofs.Math.Nat.{mod-lt}
use Rattle.std.proofs.lemmas.List.Elements.{All-push, All-set}
use Rattle.std.proofs.lemmas.List.Quantifiers.{Any-push, all_pairs_push}
use Rattle.std.proofs.lemmas.List.{get_or_append_left, get_or_push, length-set, length_push}

pub UnitesPair-push : (pairs : List (ℕ × ℕ)) (word bits : ℕ) → UnitesPair pairs (pairs ++ (word, bits) ∷ []) word bits
UnitesPair-push pairs word bits n =
    bits_of-append n pairs ((word, bits) ∷ []) ∙ ap (bit_or (bits_of n pairs)) (or_zero (bits_if n (word, bits)))

-- ---- more bits in a word
bits_if-or : (m p a b : ℕ) → bits_if m (p, bit_or a b) ≡ bit_or (bits_if m (p, a)) (bits_if m (p, b))
bits_if-or m p a b = elim (cases_eq m p) [
  | inl e ↦ bits_if-same m (p, bit_or a b) e ∙ (λ j. bit_or (sym (bits_if-same m (p, a) e) j) (sym (bits_if-same m (p, b) e) j))
  | inr ne ↦ bits_if-other m (p, bit_or a b) ne ∙ (λ j. bit_or (sym (bits_if-other m (p, a) ne) j) (sym (bits_if-other m (p, b) ne) j))
]

or_swap : (a b c : ℕ) → bit_or (bit_or a b) c ≡ bit_or (bit_or a c) b
or_swap a b c = or_assoc a b c ∙ ap (bit_or a) (or_comm b c) ∙ sym (or_assoc a c b)

-- the pairs with more bits in the word at place i
abbrev pub with_more : List (ℕ × ℕ) → ℕ → ℕ → List (ℕ × ℕ)
with_more pairs i more = set pairs i ((get_or pairs i (0, 0)).0, bit_or (get_or pairs i (0, 0)).1 more)

pub UnitesPair-more : (pairs : List (ℕ × ℕ)) (i more : ℕ) → i < length pairs →
    UnitesPair pairs (with_more pairs i more) (get_or pairs i (0, 0)).0 more
UnitesPair-more [] i more l n = absurd (omega arith)
UnitesPair-more (p ∷ ps) zero more l n =
    ap (λ b. bit_or b (bits_of n ps)) (bits_if-or n p.0 p.1 more) ∙ or_swap (bits_if n p) (bits_if n (p.0, more)) (bits_of n ps)
UnitesPair-more (p ∷ ps) (suc i) more l n =
    ap (bit_or (bits_if n p)) (UnitesPair-more ps i more (omega arith) n) ∙
    sym (or_assoc (bits_if n p) (bits_of n ps) (bits_if n ((get_or ps i (0, 0)).0, more)))

-- ---- the table
pub IsTable-empty : (seen : List ℕ) → ((n : ℕ) → ¬ IsTrue (has_bit seen n)) → IsTable [] seen
IsTable-empty seen none = record {
  words = record { few = omega arith; once = λ i j d l m. absurd (omega arith); some = λ i d l. absurd (omega arith); fits = λ i d l. absurd (omega arith) };
  low = λ i d l. absurd (omega arith);
  among = λ n. ((λ h. absurd (none n h)), (λ (i, p, l, e, h). absurd (omega arith)));
}

pub none_seen : (n k : ℕ) → ¬ IsTrue (has_bit (replicate n 0) k)
none_seen n k h = let off : has_bit (replicate n 0) k ≡ false = has_bit-zeros (replicate n 0) k (zeros_at n) in cc

HasWord-push : (pairs : List (ℕ × ℕ)) (p : ℕ × ℕ) (n : ℕ) → HasWord (pairs ++ p ∷ []) n ↔ (HasWord pairs n ⊎ (n ≡ p.0))
HasWord-push pairs p n = (
  (λ (i, q, l, e, h). elim (cases_lt i (length pairs)) [
    | inl before ↦ inl (i, q, before, sym (get_or_append_left pairs (p ∷ []) q i before) ∙ e, h)
    | inr past ↦
        let at : length pairs ≡ i = let len = length_push pairs p in omega arith in
        inr (sym h ∙ ap (λ (r : ℕ × ℕ). r.0) (sym e ∙ get_or_push pairs p q i at))
  ]),
  (λ h. elim h [
    | inl (i, q, l, e, is) ↦ (i, q, (let len = length_push pairs p in omega arith), get_or_append_left pairs (p ∷ []) q i l ∙ e, is)
    | inr e ↦ Any-push (λ q. q.0 ≡ n) pairs p (sym e)
  ]),
)

pub IsTable-push : (pairs : List (ℕ × ℕ)) (seen later : List ℕ) (word bits : ℕ) → IsTable pairs seen → length pairs < MAX_WORDS →
    word < 64 * SEEN_WORDS → ¬ HasWord pairs word → bits ≢ 0 → bits < 2 ^ 64 →
    IsTrue (has_bit later word) → ((k : ℕ) → k ≢ word → has_bit later k ≡ has_bit seen k) → IsTable (pairs ++ (word, bits) ∷ []) later
IsTable-push pairs seen later word bits was few low fresh some fits on others = record {
  words = record {
    few = let len = length_push pairs (word, bits) in omega arith;
    once = all_pairs_push (λ p q. p.0 ≢ q.0) pairs (word, bits) was.words.once (λ k d l e. fresh (k, get_or pairs k d, l, get_or_default pairs k (get_or pairs k d) d l, e));
    some = All-push (λ p. p.1 ≢ 0) pairs (word, bits) was.words.some some;
    fits = All-push (λ p. p.1 < 2 ^ 64) pairs (word, bits) was.words.fits fits;
  };
  low = All-push (λ p. p.0 < 64 * SEEN_WORDS) pairs (word, bits) was.low low;
  among = λ n. (
    (λ h. (HasWord-push pairs (word, bits) n).1 (elim (cases_eq n word) [
      | inl e ↦ inr e
      | inr ne ↦ inl ((was.among n).0 (sym (others n ne) ∙ h))
    ])),
    (λ h. elim (cases_eq n word) [
      | inl e ↦ ap (has_bit later) e ∙ on
      | inr ne ↦ others n ne ∙ (was.among n).1 (elim ((HasWord-push pairs (word, bits) n).0 h) [ inl before ↦ before | inr e ↦ absurd (ne e) ])
    ]),
  );
}

module _ (pairs : List (ℕ × ℕ)) (i more : ℕ) (within : i < length pairs) where
  same_length : length (with_more pairs i more) ≡ length pairs
  same_length = length-set pairs i ((get_or pairs i (0, 0)).0, bit_or (get_or pairs i (0, 0)).1 more)

  same_word : (k : ℕ) (d : ℕ × ℕ) → k < length pairs → (get_or (with_more pairs i more) k d).0 ≡ (get_or pairs k d).0
  same_word k d l = elim (cases_eq k i) [
    | inl e ↦ ap (λ (p : ℕ × ℕ). p.0) (ap (λ j. get_or (with_more pairs i more) j d) e ∙ get_or-set_same pairs i ((get_or pairs i (0, 0)).0, bit_or (get_or pairs i (0, 0)).1 more) d within) ∙
        ap (λ (p : ℕ × ℕ). p.0) (ap (λ j. get_or pairs j (0, 0)) (sym e) ∙ get_or_default pairs k (0, 0) d l)
    | inr ne ↦ ap (λ (p : ℕ × ℕ). p.0) (get_or-set_other pairs i k ((get_or pairs i (0, 0)).0, bit_or (get_or pairs i (0, 0)).1 more) d ne)
  ]

  pub IsTable-more : (seen : List ℕ) → more < 2 ^ 64 → IsTable pairs seen → IsTable (with_more pairs i more) seen
  IsTable-more seen small was =
      let old : ℕ × ℕ = get_or pairs i (0, 0) in
      record {
        words = record {
          few = let few = was.words.few in let len = same_length in omega arith;
          once = λ j k d l m e. was.words.once j k d l (let len = same_length in omega arith)
              (sym (same_word j d (let len = same_length in omega arith)) ∙ e ∙ same_word k d (let len = same_length in omega arith));
          some = All-set (λ p. p.1 ≢ 0) pairs i (old.0, bit_or old.1 more) (λ z. was.words.some i (0, 0) within (omega (arith, le_or_l old.1 more, z))) was.words.some;
          fits = All-set (λ p. p.1 < 2 ^ 64) pairs i (old.0, bit_or old.1 more) (or_lt 64 old.1 more (was.words.fits i (0, 0) within) small) was.words.fits;
        };
        low = All-set (λ p. p.0 < 64 * SEEN_WORDS) pairs i (old.0, bit_or old.1 more) (was.low i (0, 0) within) was.low;
        among = λ n. ((λ h. there n ((was.among n).0 h)), (λ h. (was.among n).1 (back n h)));
      }
    where
      there : (n : ℕ) → HasWord pairs n → HasWord (with_more pairs i more) n
      there n (k, p, l, e, h) =
          let len = same_length in (
            k,
            get_or (with_more pairs i more) k p,
            omega arith,
            get_or_default (with_more pairs i more) k (get_or (with_more pairs i more) k p) p (omega arith),
            same_word k p l ∙ ap (λ (q : ℕ × ℕ). q.0) e ∙ h,
          )

      back : (n : ℕ) → HasWord (with_more pairs i more) n → HasWord pairs n
      back n (k, p, l, e, h) =
          let len = same_length in (
            k,
            get_or pairs k p,
            omega arith,
            get_or_default pairs k (get_or pairs k p) p (omega arith),
            sym (same_word k p (omega arith)) ∙ ap (λ (q : ℕ × ℕ). q.0) e ∙ h,
          )

-- ---- one bit
pub HasBit-unites : (old new : List (ℕ × ℕ)) (bit : ℕ) → UnitesPair old new (bit / 64) (2 ^ (bit % 64)) →
    (n : ℕ) → HasBit new n ↔ (HasBit old n ⊎ (n ≡ bit))
HasBit-unites old new bit unites n =
    let mine : ℕ = bits_if (n / 64) (bit / 64, 2 ^ (bit % 64)) in
    let both = bit_or-bits (bits_of (n / 64) old) mine (n % 64) in
    let is : bit_at (bits_of (n / 64) new) (n % 64) ≡ bit_at (bit_or (bits_of (n / 64) old) mine) (n % 64) = ap (λ b. bit_at b (n % 64)) (unites (n / 64)) in (
      (λ h. elim (both.0 (sym is ∙ h)) [ inl o ↦ inl o | inr m ↦ inr (from m) ]),
      (λ h. is ∙ both.1 (elim h [ inl o ↦ inl o | inr e ↦ inr (to e) ])),
    )
  where
    from : bit_at (bits_if (n / 64) (bit / 64, 2 ^ (bit % 64))) (n % 64) ≡ 1 → n ≡ bit
    from h = elim (cases_eq (n / 64) (bit / 64)) [
      | inr ne ↦ absurd (let z : bit_at (bits_if (n / 64) (bit / 64, 2 ^ (bit % 64))) (n % 64) ≡ 0 =
          ap (λ b. bit_at b (n % 64)) (bits_if-other (n / 64) (bit / 64, 2 ^ (bit % 64)) ne) ∙ bit_at-zero (n % 64) in omega arith)
      | inl e ↦ elim (cases_eq (n % 64) (bit % 64)) [
        | inl f ↦ omega arith
        | inr nf ↦ absurd (let z : bit_at (bits_if (n / 64) (bit / 64, 2 ^ (bit % 64))) (n % 64) ≡ 0 =
            ap (λ b. bit_at b (n % 64)) (bits_if-same (n / 64) (bit / 64, 2 ^ (bit % 64)) e) ∙ bit_at-pow_other (bit % 64) (n % 64) nf in omega arith)
      ]
    ]

    to : n ≡ bit → bit_at (bits_if (n / 64) (bit / 64, 2 ^ (bit % 64))) (n % 64) ≡ 1
    to e = ap (λ b. bit_at b (n % 64)) (bits_if-same (n / 64) (bit / 64, 2 ^ (bit % 64)) (ap (λ k. k / 64) e)) ∙
        ap (λ k. bit_at (2 ^ (bit % 64)) (k % 64)) e ∙ bit_at-pow_same (bit % 64)

-- ---- a run of bits
pub HasBit-word : (old new : List (ℕ × ℕ)) (word bits : ℕ) → UnitesPair old new word bits →
    (n : ℕ) → HasBit new n ↔ (HasBit old n ⊎ ((n / 64 ≡ word) × (bit_at bits (n % 64) ≡ 1)))
HasBit-word old new word bits unites n =
    let mine : ℕ = bits_if (n / 64) (word, bits) in
    let both = bit_or-bits (bits_of (n / 64) old) mine (n % 64) in
    let is : bit_at (bits_of (n / 64) new) (n % 64) ≡ bit_at (bit_or (bits_of (n / 64) old) mine) (n % 64) = ap (λ b. bit_at b (n % 64)) (unites (n / 64)) in (
      (λ h. elim (both.0 (sym is ∙ h)) [
        | inl o ↦ inl o
        | inr m ↦ elim (cases_eq (n / 64) word) [
          | inl e ↦ inr (e, ap (λ b. bit_at b (n % 64)) (sym (bits_if-same (n / 64) (word, bits) e)) ∙ m)
          | inr ne ↦ absurd (let z : bit_at (bits_if (n / 64) (word, bits)) (n % 64) ≡ 0 =
              ap (λ b. bit_at b (n % 64)) (bits_if-other (n / 64) (word, bits) ne) ∙ bit_at-zero (n % 64) in omega arith)
        ]
      ]),
      (λ h. is ∙ both.1 (elim h [
        | inl o ↦ inl o
        | inr (e, on) ↦ inr (ap (λ b. bit_at b (n % 64)) (bits_if-same (n / 64) (word, bits) e) ∙ on)
      ])),
    )

-- the bits of a word that is shifted to the left, of which those past the last are lost, and to the right
bit_at-low : (x k i : ℕ) → i < k → bit_at (x % 2 ^ k) i ≡ bit_at x i
bit_at-low x k i l = sym (bit_at_cat_low (x / 2 ^ k) k (x % 2 ^ k) i l) ∙ ap (λ y. bit_at y i) (div-add-mod' x (2 ^ k))

pub bit_at-shl : (x s i : ℕ) → i < 64 → s ≤ i → bit_at (x * 2 ^ s % 2 ^ 64) i ≡ bit_at x (i - s)
bit_at-shl x s i l from =
    bit_at-low (x * 2 ^ s) 64 i l ∙ ap (λ y. bit_at y i) (let e : x * 2 ^ s ≡ x * 2 ^ s + 0 = omega arith in e) ∙
    bit_at_cat_high x s 0 i (pow_pos s) from

pub bit_at-shl_below : (x s i : ℕ) → i < 64 → i < s → bit_at (x * 2 ^ s % 2 ^ 64) i ≡ 0
bit_at-shl_below x s i l below =
    bit_at-low (x * 2 ^ s) 64 i l ∙ ap (λ y. bit_at y i) (let e : x * 2 ^ s ≡ x * 2 ^ s + 0 = omega arith in e) ∙
    bit_at_cat_low x s 0 i below ∙ bit_at-zero i

pub bit_at-shr : (x t i : ℕ) → bit_at (x / 2 ^ t) i ≡ bit_at x (i + t)
bit_at-shr x t i =
    ap (bit_at (x / 2 ^ t)) (let e : i ≡ i + t - t = omega arith in e) ∙
    sym (bit_at_cat_high (x / 2 ^ t) t (x % 2 ^ t) (i + t) (mod-lt x (pow_pos t)) (omega arith)) ∙
    ap (λ y. bit_at y (i + t)) (div-add-mod' x (2 ^ t))

-- a bit of a short run
short_bit : (run k : ℕ) → run < 2 ^ 9 → bit_at run k ≡ 1 → k < 9
short_bit run k short on = elim (cases_lt k 9) [
  | inl l ↦ l
  | inr past ↦ absurd (let z = bit_at_above run 9 k short past in omega arith)
]

-- the bits of a run in its first word
low_bit : (first run n : ℕ) → n / 64 ≡ first / 64 → bit_at (run * 2 ^ (first % 64) % 2 ^ 64) (n % 64) ≡ 1 →
    (k : ℕ) × (bit_at run k ≡ 1) × (n ≡ first + k)
low_bit first run n e on = elim (cases_lt (n % 64) (first % 64)) [
  | inl below ↦ absurd (let z = bit_at-shl_below run (first % 64) (n % 64) (omega arith) below in omega arith)
  | inr from ↦ (n % 64 - first % 64, sym (bit_at-shl run (first % 64) (n % 64) (omega arith) from) ∙ on, omega arith)
]

bit_low : (first run n k : ℕ) → bit_at run k ≡ 1 → n ≡ first + k → first % 64 + k < 64 →
    (n / 64 ≡ first / 64) × (bit_at (run * 2 ^ (first % 64) % 2 ^ 64) (n % 64) ≡ 1)
bit_low first run n k on is l =
    let place : n % 64 - first % 64 ≡ k = omega arith in
    (omega arith, bit_at-shl run (first % 64) (n % 64) (omega arith) (omega arith) ∙ ap (bit_at run) place ∙ on)

-- a run that stays in its word
pub TakesRun-one : (old new : List (ℕ × ℕ)) (first run : ℕ) → run < 2 ^ 9 → first % 64 ≤ 55 → AreWords new →
    length new ≤ length old + 1 → UnitesPair old new (first / 64) (run * 2 ^ (first % 64) % 2 ^ 64) → TakesRun old new first run
TakesRun-one old new first run short inside words few unites = record {
  words = words;
  few = omega arith;
  bits = λ n. (
    (λ h. elim ((HasBit-word old new (first / 64) (run * 2 ^ (first % 64) % 2 ^ 64) unites n).0 h) [
      | inl o ↦ inl o
      | inr (e, on) ↦ inr (low_bit first run n e on)
    ]),
    (λ h. (HasBit-word old new (first / 64) (run * 2 ^ (first % 64) % 2 ^ 64) unites n).1 (elim h [
      | inl o ↦ inl o
      | inr (k, on, is) ↦ inr (bit_low first run n k on is (let l = short_bit run k short on in omega arith))
    ])),
  );
}

-- a run that continues in the next word
pub TakesRun-two : (old mid new : List (ℕ × ℕ)) (first run : ℕ) → run < 2 ^ 9 → 55 < first % 64 → AreWords new →
    length mid ≤ length old + 1 → length new ≤ length mid + 1 → UnitesPair old mid (first / 64) (run * 2 ^ (first % 64) % 2 ^ 64) →
    UnitesPair mid new (first / 64 + 1) (run / 2 ^ (64 - first % 64)) → TakesRun old new first run
TakesRun-two old mid new first run short past words few_mid few low high = record {
  words = words;
  few = omega arith;
  bits = λ n.
      let one = HasBit-word old mid (first / 64) (run * 2 ^ (first % 64) % 2 ^ 64) low n in
      let two = HasBit-word mid new (first / 64 + 1) (run / 2 ^ (64 - first % 64)) high n in (
        (λ h. elim (two.0 h) [
          | inl m ↦ elim (one.0 m) [ inl o ↦ inl o | inr (e, on) ↦ inr (low_bit first run n e on) ]
          | inr (e, on) ↦ inr (n % 64 + (64 - first % 64), sym (bit_at-shr run (64 - first % 64) (n % 64)) ∙ on, omega arith)
        ]),
        (λ h. elim h [
          | inl o ↦ two.1 (inl (one.1 (inl o)))
          | inr (k, on, is) ↦ elim (cases_lt (first % 64 + k) 64) [
            | inl l ↦ two.1 (inl (one.1 (inr (bit_low first run n k on is l))))
            | inr g ↦
                let l = short_bit run k short on in
                let place : n % 64 + (64 - first % 64) ≡ k = omega arith in
                two.1 (inr (omega arith, bit_at-shr run (64 - first % 64) (n % 64) ∙ ap (bit_at run) place ∙ on))
          ]
        ]),
      );
}

pub one_shl : (k : ℕ) → k < 64 → 1 * 2 ^ k % 2 ^ 64 ≡ 2 ^ k
one_shl k l = let small : 2 ^ k < 2 ^ 64 = pow-lt l in let one : 1 * 2 ^ k ≡ 2 ^ k = omega arith in ap (λ x. x % 2 ^ 64) one ∙ mod-eq_of_lt small

-- one more bit
pub bit_or-pow : (run place k : ℕ) → (bit_at (bit_or run (2 ^ place)) k ≡ 1) ↔ ((bit_at run k ≡ 1) ⊎ (place ≡ k))
bit_or-pow run place k = (
  (λ h. elim ((bit_or-bits run (2 ^ place) k).0 h) [
    | inl o ↦ inl o
    | inr m ↦ elim (cases_eq k place) [ inl e ↦ inr (sym e) | inr ne ↦ absurd (let z = bit_at-pow_other place k ne in omega arith) ]
  ]),
  (λ h. (bit_or-bits run (2 ^ place) k).1 (elim h [
    | inl o ↦ inl o
    | inr e ↦ inr (ap (bit_at (2 ^ place)) (sym e) ∙ bit_at-pow_same place)
  ])),
)

-- no bits change nothing
pub UnitesPair-none : (pairs : List (ℕ × ℕ)) (word bits : ℕ) → bits ≡ 0 → UnitesPair pairs pairs word bits
UnitesPair-none pairs word bits none n =
    sym (ap (bit_or (bits_of n pairs)) (elim (cases_eq n word) [
      | inl e ↦ bits_if-same n (word, bits) e ∙ none
      | inr ne ↦ bits_if-other n (word, bits) ne
    ]) ∙ or_zero (bits_of n pairs))
