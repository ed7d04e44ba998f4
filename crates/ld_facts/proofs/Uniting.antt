-- Facts word by word.
use Rattle.ld_facts.proofs.Names.{[], ◌%◌, ◌*◌, ◌+◌, ◌/◌, ◌<◌, ◌||◌, ◌↔◌, ◌∙◌, ◌∷◌, ◌≡◌, ◌≤◌, Adds, AreFacts, AreSame, Bool, FactBelow, FactParts, HasFact, List, PairsHave, SetsBit, UnitesWord, ap, arith, bit_at, bit_at-zero, bit_total, bits_if, bits_if-other, bits_if-same, bits_of, cases_eq, cases_lt, eq-eqb, eqb, eqb-true, fact_number, fact_of, false, get_or, get_or_past, has_bit, inl, inr, length, or_cases, or_left, or_right, or_zero, refl, subst, sym, true, ℕ}
use Rattle.std.specs.Cmp.{both_ways}

-- a bit of a word
pub has_bit-at : (words : List ℕ) (i k : ℕ) → k < 64 → has_bit words (i * 64 + k) ≡ eqb (bit_at (get_or words i 0) k) 1
has_bit-at words i k l =
    let q : (i * 64 + k) / 64 ≡ i = omega arith in
    let r : (i * 64 + k) % 64 ≡ k = omega arith in
    rw (q, r) refl

or_known : (a b : Bool) → (b ≡ true → a ≡ true) → a ≡ (a || b)
or_known true b h = refl
or_known false false h = refl
or_known false true h = h refl

-- a word whose bits are all there changes nothing
pub UnitesWord-known : (facts : FactParts) (i word : ℕ) →
    ((k : ℕ) → k < 64 → bit_at word k ≡ 1 → bit_at (get_or facts.words i 0) k ≡ 1) → UnitesWord facts facts i word
UnitesWord-known facts i word held = record {
  keys = refl;
  within = λ k l. or_known (has_bit facts.words (i * 64 + k)) (eqb (bit_at word k) 1)
      (λ h. has_bit-at facts.words i k l ∙ eq-eqb (bit_at (get_or facts.words i 0) k) 1 (held k l (eqb-true (bit_at word k) 1 h)));
  others = λ k ne. refl;
}

-- the first k bits of the word have been added
pub record UnitesBits (first now : FactParts) (i word k : ℕ) : Type 0 where
  pub keys : now.keys ≡ first.keys
  pub done : (j : ℕ) → j < k → has_bit now.words (i * 64 + j) ≡ (has_bit first.words (i * 64 + j) || eqb (bit_at word j) 1)
  pub rest : (j : ℕ) → k ≤ j → j < 64 → has_bit now.words (i * 64 + j) ≡ has_bit first.words (i * 64 + j)
  pub others : (j : ℕ) → ¬ (j / 64 ≡ i) → has_bit now.words j ≡ has_bit first.words j

pub UnitesBits-start : (first : FactParts) (i word : ℕ) → UnitesBits first first i word 0
UnitesBits-start first i word = record { keys = refl; done = λ j l. absurd (omega arith); rest = λ j l m. refl; others = λ j ne. refl }

or_off : (a b : Bool) → b ≡ false → a ≡ (a || b)
or_off a b e = or_known a b (λ t. absurd (let f : b ≡ true = t in cc))

module _ (first now : FactParts) (i word k : ℕ) (below : k < 64) (was : UnitesBits first now i word k) where
  pub UnitesBits-off : eqb (bit_at word k) 1 ≡ false → UnitesBits first now i word (k + 1)
  UnitesBits-off off = record {
    keys = was.keys;
    done = λ j l. elim (cases_eq j k) [
      | inl e ↦ was.rest j (omega arith) (omega arith) ∙ or_off (has_bit first.words (i * 64 + j)) (eqb (bit_at word j) 1) (ap (λ x. eqb (bit_at word x) 1) e ∙ off)
      | inr ne ↦ was.done j (omega arith)
    ];
    rest = λ j l m. was.rest j (omega arith) m;
    others = was.others;
  }

  pub UnitesBits-on : (new : FactParts) → eqb (bit_at word k) 1 ≡ true → SetsBit now new (i * 64 + k) → UnitesBits first new i word (k + 1)
  UnitesBits-on new on sets = record {
    keys = sets.keys ∙ was.keys;
    done = λ j l. elim (cases_eq j k) [
      | inl e ↦ ap (λ x. has_bit new.words (i * 64 + x)) e ∙ sets.set ∙
          sym (or_right (has_bit first.words (i * 64 + j)) (eqb (bit_at word j) 1) (ap (λ x. eqb (bit_at word x) 1) e ∙ on))
      | inr ne ↦ sets.others (i * 64 + j) (λ e. ne (omega arith)) ∙ was.done j (omega arith)
    ];
    rest = λ j l m. sets.others (i * 64 + j) (λ e. absurd (omega arith)) ∙ was.rest j (omega arith) m;
    others = λ j ne. sets.others j (λ e. ne (omega arith)) ∙ was.others j ne;
  }

pub UnitesWord-bits : (first now : FactParts) (i word k : ℕ) → 64 ≤ k → UnitesBits first now i word k → UnitesWord first now i word
UnitesWord-bits first now i word k all was = record {
  keys = was.keys;
  within = λ j l. was.done j (omega arith);
  others = was.others;
}

-- ---- the first n words of the other facts have been added
pub record UnitesWords (first now : FactParts) (words : List ℕ) (n : ℕ) : Type 0 where
  pub keys : now.keys ≡ first.keys
  pub done : (k : ℕ) → k / 64 < n → has_bit now.words k ≡ (has_bit first.words k || has_bit words k)
  pub rest : (k : ℕ) → n ≤ k / 64 → has_bit now.words k ≡ has_bit first.words k

pub UnitesWords-start : (first : FactParts) (words : List ℕ) → UnitesWords first first words 0
UnitesWords-start first words = record { keys = refl; done = λ k l. absurd (omega arith); rest = λ k l. refl }

pub UnitesWords-more : (first now new : FactParts) (words : List ℕ) (n : ℕ) → UnitesWords first now words n →
    UnitesWord now new n (get_or words n 0) → UnitesWords first new words (n + 1)
UnitesWords-more first now new words n was unites = record {
  keys = unites.keys ∙ was.keys;
  done = λ k l. elim (cases_eq (k / 64) n) [
    | inl e ↦ at k e
    | inr ne ↦ unites.others k ne ∙ was.done k (omega arith)
  ];
  rest = λ k l. unites.others k (λ e. absurd (omega arith)) ∙ was.rest k (omega arith);
}
  where
    at : (k : ℕ) → k / 64 ≡ n → has_bit new.words k ≡ (has_bit first.words k || has_bit words k)
    at k e =
        let j : ℕ = k % 64 in
        let l : j < 64 = omega arith in
        let is : n * 64 + j ≡ k = omega arith in
        subst (λ x. has_bit new.words x ≡ (has_bit first.words x || has_bit words x)) is
        (unites.within j l ∙
        (λ t. was.rest (n * 64 + j) (omega arith) t || eqb (bit_at (get_or words n 0) j) 1) ∙
        ap (λ b. has_bit first.words (n * 64 + j) || b) (sym (has_bit-at words n j l)))

pub Adds-words : (a b now : FactParts) (n : ℕ) → a.keys ≡ b.keys → length b.words ≤ n → UnitesWords a now b.words n →
    Adds (HasFact a) (HasFact now) (HasFact b)
Adds-words a b now n same all was x =
    let bit : ℕ = fact_number a.keys x in (
      (λ h. let o = at now was.keys h in elim (or_cases (has_bit a.words bit) (has_bit b.words bit) (sym (each bit) ∙ o.1)) [
        | inl y ↦ inl (o.0, y)
        | inr y ↦ inr (from b (sym same) (o.0, y))
      ]),
      (λ h. from now was.keys (elim h [
        | inl y ↦ (y.0, each bit ∙ or_left (has_bit a.words bit) (has_bit b.words bit) y.1)
        | inr y ↦ (let o = at b (sym same) y in (o.0, each bit ∙ or_right (has_bit a.words bit) (has_bit b.words bit) o.1))
      ])),
    )
  where
    at : (f : FactParts) → f.keys ≡ a.keys → HasFact f x → FactBelow a.keys x × (has_bit f.words (fact_number a.keys x) ≡ true)
    at f e h = subst (λ k. FactBelow k x × (has_bit f.words (fact_number k x) ≡ true)) e h

    from : (f : FactParts) → f.keys ≡ a.keys → FactBelow a.keys x × (has_bit f.words (fact_number a.keys x) ≡ true) → HasFact f x
    from f e h = subst (λ k. FactBelow k x × (has_bit f.words (fact_number k x) ≡ true)) (sym e) h

    past : (k : ℕ) → n ≤ k / 64 → has_bit b.words k ≡ false
    past k l =
        let zero : get_or b.words (k / 64) 0 ≡ 0 = get_or_past b.words (k / 64) 0 (omega arith) in
        rw (zero, bit_at-zero (k % 64)) refl

    each : (k : ℕ) → has_bit now.words k ≡ (has_bit a.words k || has_bit b.words k)
    each k = elim (cases_lt (k / 64) n) [
      | inl l ↦ was.done k l
      | inr g ↦ was.rest k g ∙ or_off (has_bit a.words k) (has_bit b.words k) (past k g)
    ]

-- ---- the same facts are the same words
pub AreSame-bits : (a b : FactParts) → AreFacts a → AreFacts b → a.keys ≡ b.keys → AreSame (HasFact a) (HasFact b) →
    (length a.words ≡ length b.words) × ((n : ℕ) → has_bit a.words n ≡ has_bit b.words n)
AreSame-bits a b fa fb keys same = (
  fa.words ∙ ap (λ k. (bit_total k + 63) / 64) keys ∙ sym fb.words,
  λ n. elim (cases_lt n (bit_total a.keys)) [
    | inl l ↦
        let (x, (below, is)) = fact_of a.keys n l in
        subst (λ m. has_bit a.words m ≡ has_bit b.words m) is (both_ways (has_bit a.words (fact_number a.keys x)) (has_bit b.words (fact_number a.keys x))
        (λ h. let o = (same x).0 (below, h) in subst (λ k. has_bit b.words (fact_number k x) ≡ true) (sym keys) o.1)
        (λ h. ((same x).1 (subst (λ k. FactBelow k x × (has_bit b.words (fact_number k x) ≡ true)) keys (below, h))).1))
    | inr past ↦ fa.none_past n past ∙ sym (fb.none_past n (subst (λ k. bit_total k ≤ n) keys past))
  ],
)

-- ---- the facts of a word's bits
pub Adds-word : (old new : FactParts) (n bits : ℕ) → UnitesWord old new n bits →
    Adds (HasFact old) (HasFact new) (PairsHave old.keys ((n, bits) ∷ []))
Adds-word old new n bits unites x =
    let b : ℕ = fact_number old.keys x in
    let mine : bits_of (b / 64) ((n, bits) ∷ []) ≡ bits_if (b / 64) (n, bits) = or_zero (bits_if (b / 64) (n, bits)) in
    let now : HasFact new x ↔ (FactBelow old.keys x × (has_bit new.words b ≡ true)) = (
      (λ h. subst (λ k. FactBelow k x × (has_bit new.words (fact_number k x) ≡ true)) unites.keys h),
      (λ h. subst (λ k. FactBelow k x × (has_bit new.words (fact_number k x) ≡ true)) (sym unites.keys) h),
    ) in
    elim (cases_eq (b / 64) n) [
      | inr ne ↦
          let none : bit_at (bits_of (b / 64) ((n, bits) ∷ [])) (b % 64) ≡ 0 = ap (λ w. bit_at w (b % 64)) (mine ∙ bits_if-other (b / 64) (n, bits) ne) ∙ bit_at-zero (b % 64) in (
            (λ h. let o = now.0 h in inl (o.0, sym (unites.others b ne) ∙ o.1)),
            (λ h. elim h [ inl o ↦ now.1 (o.0, unites.others b ne ∙ o.1) | inr o ↦ absurd (omega (arith, o.1, none)) ]),
          )
      | inl e ↦
          let is : bit_at (bits_of (b / 64) ((n, bits) ∷ [])) (b % 64) ≡ bit_at bits (b % 64) = ap (λ w. bit_at w (b % 64)) (mine ∙ bits_if-same (b / 64) (n, bits) e) in
          let at : n * 64 + b % 64 ≡ b = omega arith in
          let set : has_bit new.words b ≡ (has_bit old.words b || eqb (bit_at bits (b % 64)) 1) =
          subst (λ m. has_bit new.words m ≡ (has_bit old.words m || eqb (bit_at bits (b % 64)) 1)) at (unites.within (b % 64) (omega arith)) in (
            (λ h. let o = now.0 h in elim (or_cases (has_bit old.words b) (eqb (bit_at bits (b % 64)) 1) (sym set ∙ o.1)) [
              | inl y ↦ inl (o.0, y)
              | inr y ↦ inr (o.0, is ∙ eqb-true (bit_at bits (b % 64)) 1 y)
            ]),
            (λ h. now.1 (elim h [
              | inl o ↦ (o.0, set ∙ or_left (has_bit old.words b) (eqb (bit_at bits (b % 64)) 1) o.1)
              | inr o ↦ (o.0, set ∙ or_right (has_bit old.words b) (eqb (bit_at bits (b % 64)) 1) (eq-eqb (bit_at bits (b % 64)) 1 (sym is ∙ o.1)))
            ])),
          )
    ]
