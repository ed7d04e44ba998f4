-- Words in pages: which they are, and what stays of them when a page is made, and when one changes.
use Rattle.ld_facts.proofs.Names.{[], ◌%◌, ◌*◌, ◌++◌, ◌+◌, ◌/◌, ◌<◌, ◌∙◌, ◌∷◌, ◌≡◌, ◌≢◌, ◌≤◌, ◌⊎◌, Bool, List, ap, arith, bit_at, cases_eq, cases_lt, count_below-one_more, eq-eqb, eqb, false, get_or, get_or-set_other, get_or-set_same, get_or_past, has_bit, has_bit-zeros, inl, inr, length, length-append, length-set, ne_eqb, refl, set, suc, sym, zero, ℕ}
use Rattle.std.proofs.lemmas.List.{get_or_append_left, get_or-append-add}
use Rattle.ld_facts.specs.Inside.Bits.{count_below}
use Rattle.ld_facts.specs.Inside.Pages.{ArePages, word_in, words_below}

pub words_below-length : (word : ℕ → ℕ) (n : ℕ) → length (words_below word n) ≡ n
unfolding words_below
words_below-length word zero = refl
words_below-length word (suc n) =
    let l = length-append (words_below word n) (word n ∷ []) in
    let h = words_below-length word n in
    omega arith

pub words_below-at : (word : ℕ → ℕ) (n k : ℕ) → k < n → get_or (words_below word n) k 0 ≡ word k
unfolding words_below
words_below-at word zero k l = absurd (omega arith)
words_below-at word (suc n) k l =
    let whole = words_below-length word n in
    elim (cases_lt k n) [
      | inl before ↦ get_or_append_left (words_below word n) (word n ∷ []) 0 k (omega arith) ∙ words_below-at word n k before
      | inr last ↦ let same : k ≡ length (words_below word n) + 0 = omega arith in ap (λ i. get_or (words_below word n ++ word n ∷ []) i 0) same ∙ get_or-append-add (words_below word n) (word n ∷ []) 0 0 ∙ ap word (omega arith)
    ]

module _ (places : List ℕ) (pages : List (List ℕ)) (n : ℕ) where
  pub is-below : (now : List ℕ) → words_below (word_in places pages) n ≡ now → (i : ℕ) → i < length now → i < n
  is-below now is i l = let e : n ≡ length now = sym (words_below-length (word_in places pages) n) ∙ ap length is in omega arith

  -- a bit of the words is one of a page
  pub has_bit-paged : (k : ℕ) → k / 64 < n → has_bit (words_below (word_in places pages) n) k ≡ has_bit (get_or pages (get_or places (k / 4096) 0) []) (k % 4096)
  has_bit-paged k l =
      let page : k / 64 / 64 ≡ k / 4096 = omega arith in
      let word : k / 64 % 64 ≡ k % 4096 / 64 = omega arith in
      let bit : k % 64 ≡ k % 4096 % 64 = omega arith in
      rw (words_below-at (word_in places pages) n (k / 64) l, page, word, bit) refl

  pub has_bit-past : (k : ℕ) → n ≤ k / 64 → has_bit (words_below (word_in places pages) n) k ≡ false
  has_bit-past k l =
      let whole = words_below-length (word_in places pages) n in
      rw (get_or_past (words_below (word_in places pages) n) (k / 64) 0 (omega arith)) (ne_eqb (bit_at 0 (k % 64)) 1 (λ e. absurd (let z = Rattle.ld_facts.proofs.Names.bit_at-zero (k % 64) in omega arith)))

-- a bit of the words is on one of the pages
pub page-below : (count room : ℕ) (places : List ℕ) (pages : List (List ℕ)) (now : List ℕ) → ArePages count places pages room → words_below (word_in places pages) count ≡ now →
    (i : ℕ) → i < length now → i / 64 < length places
page-below count room places pages now are is i l = let b = is-below places pages count now is i l in let e = are.enough in omega arith

-- no bit is set on the shared page
pub none-shared : (count room : ℕ) (places : List ℕ) (pages : List (List ℕ)) (now : List ℕ) → ArePages count places pages room → words_below (word_in places pages) count ≡ now →
    (k : ℕ) → get_or places (k / 4096) 0 ≡ 0 → has_bit now k ≡ false
none-shared count room places pages now are is k shared =
    ap (λ ws. has_bit ws k) (sym is) ∙
    (elim (cases_lt (k / 64) count) [
      | inl l ↦ has_bit-paged places pages count k l ∙ (rw shared (has_bit-zeros (get_or pages 0 []) (k % 4096) are.shared))
      | inr past ↦ has_bit-past places pages count k past
    ])

-- the same words have the same bits
pub has_bit-same : (f g : ℕ → ℕ) (n : ℕ) → ((i : ℕ) → f i ≡ g i) → (k : ℕ) → has_bit (words_below f n) k ≡ has_bit (words_below g n) k
has_bit-same f g n same k =
    let one = words_below-length f n in
    let other = words_below-length g n in
    elim (cases_lt (k / 64) n) [
      | inl l ↦ rw (words_below-at f n (k / 64) l, words_below-at g n (k / 64) l, same (k / 64)) refl
      | inr past ↦ rw (get_or_past (words_below f n) (k / 64) 0 (omega arith), get_or_past (words_below g n) (k / 64) 0 (omega arith)) refl
    ]

-- page `at` is its words' own, and the words are as they were
pub record IsReady (count at : ℕ) (places now : List ℕ) (pages made : List (List ℕ)) (room : ℕ) : Type 0 where
  pub are : ArePages count now made room
  pub own : get_or now at 0 ≢ 0
  pub below : at < length now
  pub same : (i : ℕ) → word_in now made i ≡ word_in places pages i

module _ (count room at : ℕ) (places : List ℕ) (pages : List (List ℕ)) (are : ArePages count places pages room) (below : at < length places) where
  pub ready-given : get_or places at 0 ≢ 0 → IsReady count at places places pages pages room
  ready-given own = record { are = are; own = own; below = below; same = λ i. refl }

  module _ (shared : get_or places at 0 ≡ 0) where
    abbrev pub now : List ℕ
    now = set places at (length pages)

    place-here : get_or now at 0 ≡ length pages
    place-here = get_or-set_same places at (length pages) 0 below

    place-there : (j : ℕ) → j ≢ at → get_or now j 0 ≡ get_or places j 0
    place-there j ne = get_or-set_other places at j (length pages) 0 ne

    some : 0 < length pages
    some = let l = are.within at in omega (arith, shared)

    one_less : count_below (λ j. eqb (get_or places j 0) 0) (length places) ≡ count_below (λ j. eqb (get_or now j 0) 0) (length places) + 1
    one_less = count_below-one_more (λ j. eqb (get_or now j 0) 0) (λ j. eqb (get_or places j 0) 0) at (length places) below
        (ne_eqb (get_or now at 0) 0 (λ e. absurd (let h = place-here in let s = some in omega arith)))
        (eq-eqb (get_or places at 0) 0 shared)
        (λ k ne. ap (λ x. eqb x 0) (sym (place-there k ne)))

    -- there is room for the page
    pub room-left : length pages < room
    room-left = let r = are.rest in let o = one_less in omega arith

    module _ (page : List ℕ) (empty : (k : ℕ) → get_or page k 0 ≡ 0) where
      abbrev pub made : List (List ℕ)
      made = pages ++ page ∷ []

      count-made : length made ≡ length pages + 1
      count-made = length-append pages (page ∷ [])

      page-old : (p : ℕ) → p < length pages → get_or made p [] ≡ get_or pages p []
      page-old p l = get_or_append_left pages (page ∷ []) [] p l

      page-new : get_or made (length pages) [] ≡ page
      page-new = ap (λ i. get_or made i []) (let e : length pages ≡ length pages + 0 = omega arith in e) ∙ get_or-append-add pages (page ∷ []) 0 []

      place-within : (j : ℕ) → get_or now j 0 < length made
      place-within j =
          let more = count-made in
          elim (cases_eq j at) [
            | inl e ↦ let h : get_or now j 0 ≡ length pages = rw e place-here in omega arith
            | inr ne ↦ let h = place-there j ne in let l = are.within j in omega arith
          ]

      place-apart : (i j : ℕ) → get_or now i 0 ≡ get_or now j 0 → (i ≡ j) ⊎ (get_or now i 0 ≡ 0)
      place-apart i j same =
          elim (cases_eq i at) [
            | inl e ↦ elim (cases_eq j at) [
              | inl f ↦ inl (e ∙ sym f)
              | inr nf ↦ absurd (let h : get_or now i 0 ≡ length pages = rw e place-here in let g = place-there j nf in let l = are.within j in omega arith)
            ]
            | inr ne ↦ elim (cases_eq j at) [
              | inl f ↦ absurd (let h : get_or now j 0 ≡ length pages = rw f place-here in let g = place-there i ne in let l = are.within i in omega arith)
              | inr nf ↦ elim (are.apart i j (sym (place-there i ne) ∙ same ∙ place-there j nf)) [
                | inl e ↦ inl e
                | inr z ↦ inr (place-there i ne ∙ z)
              ]
            ]
          ]

      word-same : (i : ℕ) → word_in now made i ≡ word_in places pages i
      word-same i =
          elim (cases_eq (i / 64) at) [
            | inl e ↦
                rw (e, place-here, page-new, shared)
                (empty (i % 64) ∙ sym (are.shared (i % 64)))
            | inr ne ↦ rw (place-there (i / 64) ne, page-old (get_or places (i / 64) 0) (are.within (i / 64))) refl
          ]

      pub ready-made : IsReady count at places now pages made room
      ready-made = record {
        are = record {
          enough = let e = are.enough in let l = length-set places at (length pages) in omega arith;
          within = place-within;
          shared = λ k. ap (λ p. get_or p k 0) (page-old 0 some) ∙ are.shared k;
          apart = place-apart;
          rest =
              let r = are.rest in
              let o = one_less in
              let m = count-made in
              let s : count_below (λ j. eqb (get_or now j 0) 0) (length now) ≡ count_below (λ j. eqb (get_or now j 0) 0) (length places) =
              ap (count_below (λ j. eqb (get_or now j 0) 0)) (length-set places at (length pages)) in
              omega arith;
        };
        own = λ e. absurd (let h = place-here in let s = some in omega arith);
        below = let l = length-set places at (length pages) in omega arith;
        same = word-same;
      }

-- a page of its own changes
module _ (count room at : ℕ) (places : List ℕ) (pages : List (List ℕ)) (are : ArePages count places pages room) (below : at < length places)
    (own : get_or places at 0 ≢ 0) (page : List ℕ) where
  abbrev pub changed : List (List ℕ)
  changed = set pages (get_or places at 0) page

  page-here : get_or changed (get_or places at 0) [] ≡ page
  page-here = get_or-set_same pages (get_or places at 0) page [] (are.within at)

  page-there : (p : ℕ) → p ≢ get_or places at 0 → get_or changed p [] ≡ get_or pages p []
  page-there p ne = get_or-set_other pages (get_or places at 0) p page [] ne

  place-other : (j : ℕ) → j ≢ at → get_or places j 0 ≢ get_or places at 0
  place-other j ne e = elim (are.apart at j (sym e)) [
    | inl same ↦ ne (sym same)
    | inr none ↦ own none
  ]

  pub changed-are : ArePages count places changed room
  changed-are =
      let l = length-set pages (get_or places at 0) page in
      record {
        enough = are.enough;
        within = λ j. let w = are.within j in omega arith;
        shared = λ k. ap (λ p. get_or p k 0) (page-there 0 (λ e. own (sym e))) ∙ are.shared k;
        apart = are.apart;
        rest = let r = are.rest in omega arith;
      }

  pub changed-here : (k : ℕ) → k / 64 < count → k / 4096 ≡ at → has_bit (words_below (word_in places changed) count) k ≡ has_bit page (k % 4096)
  changed-here k l e = has_bit-paged places changed count k l ∙ (rw (e, page-here) refl)

  pub changed-there : (k : ℕ) → k / 64 < count → k / 4096 ≢ at → has_bit (words_below (word_in places changed) count) k ≡ has_bit (words_below (word_in places pages) count) k
  changed-there k l ne =
      has_bit-paged places changed count k l ∙
      (rw (page-there (get_or places (k / 4096) 0) (place-other (k / 4096) ne)) refl) ∙
      sym (has_bit-paged places pages count k l)

  -- if one bit of the page changes, no other bit of the words does
  pub changed-others : (n : ℕ) → n / 4096 ≡ at → ((k : ℕ) → k ≢ n % 4096 → has_bit page k ≡ has_bit (get_or pages (get_or places at 0) []) k) → (k : ℕ) → k ≢ n →
      has_bit (words_below (word_in places changed) count) k ≡ has_bit (words_below (word_in places pages) count) k
  changed-others n e bits k ne =
      elim (cases_lt (k / 64) count) [
        | inr past ↦ has_bit-past places changed count k past ∙ sym (has_bit-past places pages count k past)
        | inl l ↦ elim (cases_eq (k / 4096) at) [
          | inr there ↦ changed-there k l there
          | inl here ↦
              changed-here k l here ∙ bits (k % 4096) (λ r. ne (omega arith)) ∙
              sym (has_bit-paged places pages count k l ∙ (rw here refl))
        ]
      ]
