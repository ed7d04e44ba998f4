-- What seats have put and seen, in facts.
use Rattle.ld_board.proofs.Names.{[], ◌%◌, ◌&&◌, ◌++◌, ◌+◌, ◌/◌, ◌<◌, ◌↔◌, ◌∙◌, ◌∷◌, ◌≡◌, Adds, All, Any, Any-cases, Any-here, Any-later, AreSame, AreWordsOf, Bool, ChainHas, Fact, FactBelow, FactParts, HasFact, Holds, IsTrue, Knows, List, PairsHave, PairsHave-append, PairsHave-within, PutHas, Seat, SeenHas, ShareWord, Some, View, Within, Within-bit, Within-facts, ap, arith, bit_at, bit_or, bit_or-bits, bits_of, bits_of-bit, cases_eq, claims_of, eq-eqb, eqb, eqb-true, fact_number, false, gathered, get_or, get_or_from_slice_get, inl, inr, joined, length, newcomer, none_has, once_below, refl, slice_get, slice_get_within, slice_index, subst, suc, sym, times, true, true≢false, view, zero, ℕ}
use Rattle.ld_task.specs.Chains.{ChainParts}
use Rattle.ld_facts.specs.Laws.{EachBitIsAFacts}
use Rattle.ld_board.proofs.WordLists.{bit_into}

-- one pair of words
pub pair_at : (words now : List (ℕ × ℕ)) (n word bits : ℕ) → now ≡ words → slice_get now n ≡ Some (word, bits) → (n < length words) × (get_or words n (0, 0) ≡ (word, bits))
pair_at words now n word bits same at =
    let is : slice_get words n ≡ Some (word, bits) = ap (λ (ws : List (ℕ × ℕ)). slice_get ws n) (sym same) ∙ at in
    (slice_get_within words n (word, bits) is, get_or_from_slice_get words n (word, bits) (0, 0) is)

module _ (keys : ℕ) (chain : ChainParts) (words : List (ℕ × ℕ)) (are : AreWordsOf keys chain words) where
  -- the words' bits are put
  pub puts_chain : (old new : List (ℕ × ℕ)) → ((n : ℕ) → bits_of n new ≡ bit_or (bits_of n words) (bits_of n old)) → Adds (PairsHave keys old) (PairsHave keys new) (ChainHas chain)
  puts_chain old new union x =
      let n : ℕ = fact_number keys x / 64 in
      let k : ℕ = fact_number keys x % 64 in
      let both = bit_or-bits (bits_of n words) (bits_of n old) k in
      let is : bit_at (bits_of n new) k ≡ bit_at (bit_or (bits_of n words) (bits_of n old)) k = ap (λ b. bit_at b k) (union n) in (
        (λ (below, on). elim (both.0 (sym is ∙ on)) [ inl a ↦ inr ((are.facts x).0 (below, a)) | inr b ↦ inl (below, b) ]),
        (λ h. elim h [
          | inl (below, on) ↦ (below, is ∙ both.1 (inr on))
          | inr has ↦ (let (below, on) = (are.facts x).1 has in (below, is ∙ both.1 (inl on)))
        ]),
      )

  -- they are among what was seen
  pub covers_chain : EachBitIsAFacts → (seen : List (ℕ × ℕ)) → ((n : ℕ) → Within (bits_of n words) (bits_of n seen)) ↔ Holds (PairsHave keys seen) (ChainHas chain)
  covers_chain each seen = (
    (λ within x has. PairsHave-within keys words seen within x ((are.facts x).1 has)),
    (λ holds. Within-facts each keys words seen are.fits are.none_past (λ x p. holds x ((are.facts x).0 p))),
  )

  -- what is in each of their words is in those of others
  pub saw_own : (put seen : List (ℕ × ℕ)) → All (λ p. Within (bits_of p.0 put) (bits_of p.0 seen)) words
      → (x y : Fact) → ChainHas chain x → ShareWord keys x y → PairsHave keys put y → PairsHave keys seen y
  saw_own put seen mine x y has share (below, on) =
      let (i, l, at) = bits_of-bit (fact_number keys x / 64) (fact_number keys x % 64) words ((are.facts x).1 has).1 in
      let word : (get_or words i (0, 0)).0 ≡ fact_number keys y / 64 = sym (at (0, 0)).0 ∙ share in (
        below,
        subst (λ n. Within (bits_of n put) (bits_of n seen) → bit_at (bits_of (fact_number keys y / 64) put) (fact_number keys y % 64) ≡ 1 → bit_at (bits_of (fact_number keys y / 64) seen) (fact_number keys y % 64) ≡ 1) (sym word)
            (λ within b. Within-bit (bits_of (fact_number keys y / 64) put) (bits_of (fact_number keys y / 64) seen) (fact_number keys y % 64) within b) (mine i (0, 0) l) on,
      )

  -- the word of each of them was loaded
  pub loads_chain : (loaded : List (ℕ × ℕ)) → All (λ p. Any (λ q. q.0 ≡ p.0) loaded) words → (x : Fact) → ChainHas chain x → Any (λ q. q.0 ≡ fact_number keys x / 64) loaded
  loads_chain loaded all x has =
      let (i, l, at) = bits_of-bit (fact_number keys x / 64) (fact_number keys x % 64) words ((are.facts x).1 has).1 in
      subst (λ n. Any (λ (q : ℕ × ℕ). q.0 ≡ n) loaded) (sym (at (0, 0)).0) (all i (0, 0) l)

-- what the gathered view has of f is what any of the seats has
module _ (keys : ℕ) (f : View → List (ℕ × ℕ)) (splits : (v w : View) → f (joined v w) ≡ f v ++ f w) (starts : f (newcomer 0) ≡ []) where
  pub gathered_has : (ss : List Seat) (x : Fact) → PairsHave keys (f (gathered ss)) x ↔ Any (λ s. PairsHave keys (f (view s)) x) ss
  gathered_has [] x = (
    (λ h. absurd (none_has keys x (subst (λ ps. PairsHave keys ps x) starts h))),
    (λ (k, s, l, e, h). absurd (omega (arith, l))),
  )
  gathered_has (s ∷ ss) x =
      let P : Seat → Type 0 = λ s. PairsHave keys (f (view s)) x in
      let split = PairsHave-append keys (f (gathered ss)) (f (view s)) x in
      let same = splits (gathered ss) (view s) in (
        (λ h. elim (split.0 (subst (λ ps. PairsHave keys ps x) same h)) [
          | inl others ↦ Any-later P s ss ((gathered_has ss x).0 others)
          | inr here ↦ Any-here P s ss here
        ]),
        (λ any. subst (λ ps. PairsHave keys ps x) (sym same) (split.1 (elim (Any-cases P s ss any) [
          | inl here ↦ inr here
          | inr others ↦ inl ((gathered_has ss x).1 others)
        ]))),
      )

pub gathered_claims : (ss : List Seat) → (gathered ss).claimed ≡ claims_of ss
gathered_claims [] = refl
gathered_claims (s ∷ ss) = ap (λ (xs : List ℕ). xs ++ (view s).claimed) (gathered_claims ss)

-- both tests pass
pub and_true : (a : Bool) (m n : ℕ) → IsTrue (a && eqb m n) ↔ (IsTrue a × (m ≡ n))
and_true true m n = ((λ h. (refl, eqb-true m n h)), (λ h. eq-eqb m n h.1))
and_true false m n = ((λ h. absurd (true≢false (sym h))), (λ h. absurd (true≢false (sym h.0))))

-- ---- the words of a closed board
-- the fact's bit is set in one of the first n words after the claim word
abbrev pub WordsHave : (keys : ℕ) → List ℕ → (n : ℕ) → Fact → Type 0
WordsHave keys ws n x =
    FactBelow keys x × (fact_number keys x / 64 < n)
    × (bit_at (slice_index ws (fact_number keys x / 64 + 1)) (fact_number keys x % 64) ≡ 1)

one_pair : (keys n w : ℕ) (x : Fact) → PairsHave keys ((n, w) ∷ []) x ↔ (FactBelow keys x × (fact_number keys x / 64 ≡ n) × (bit_at w (fact_number keys x % 64) ≡ 1))
one_pair keys n w x = (
  (λ (below, on). let (i, l, at) = bits_of-bit (fact_number keys x / 64) (fact_number keys x % 64) ((n, w) ∷ []) on in let (same, one) = first i l (at (0, 0)) in (below, same, one)),
  (λ (below, same, on). (below, bit_into (fact_number keys x / 64) (fact_number keys x % 64) ((n, w) ∷ []) 0 (0, 0) (omega arith) same on)),
)
  where
    first : (i : ℕ) → i < 1 → let pair : List (ℕ × ℕ) = (n, w) ∷ [] in (fact_number keys x / 64 ≡ (get_or pair i (0, 0)).0) × (bit_at (get_or pair i (0, 0)).1 (fact_number keys x % 64) ≡ 1) → (fact_number keys x / 64 ≡ n) × (bit_at w (fact_number keys x % 64) ≡ 1)
    first zero l at = at
    first (suc i) l at = absurd (omega (arith, l))

pub words_more : (keys n w : ℕ) (ws : List ℕ) (Old New : Fact → Type 0) → slice_index ws (n + 1) ≡ w → Adds Old New (PairsHave keys ((n, w) ∷ [])) → AreSame Old (WordsHave keys ws n) → AreSame New (WordsHave keys ws (n + 1))
words_more keys n w ws Old New is adds so_far x =
    let m : ℕ = fact_number keys x / 64 in
    let k : ℕ = fact_number keys x % 64 in
    let one = one_pair keys n w x in (
      (λ new. elim ((adds x).0 new) [
        | inl old ↦ (let (below, l, on) = (so_far x).0 old in (below, omega (arith, l), on))
        | inr pair ↦ (let (below, same, on) = one.0 pair in
            (below, omega (arith, same), subst (λ j. bit_at (slice_index ws (j + 1)) k ≡ 1) (sym same) (subst (λ b. bit_at b k ≡ 1) (sym is) on)))
      ]),
      (λ (below, l, on). elim (cases_eq m n) [
        | inl same ↦ (adds x).1 (inr (one.1 (below, same, subst (λ b. bit_at b k ≡ 1) is (subst (λ j. bit_at (slice_index ws (j + 1)) k ≡ 1) same on))))
        | inr other ↦ (adds x).1 (inl ((so_far x).1 (below, omega (arith, l, other), on)))
      ]),
    )

-- what is read from them is what the seats have put, with all that they have seen
module _ (keys : ℕ) (ss : List Seat) (ws : List ℕ) (knows : Knows keys (gathered ss) ws) (facts : FactParts) (same : (x : Fact) → HasFact facts x ↔ (FactBelow keys x × (bit_at (slice_index ws (fact_number keys x / 64 + 1)) (fact_number keys x % 64) ≡ 1))) where
  has_put : (x : Fact) → HasFact facts x ↔ PairsHave keys (gathered ss).put x
  has_put x =
      let n : ℕ = fact_number keys x / 64 in
      let k : ℕ = fact_number keys x % 64 in (
        (λ h. let (below, on) = (same x).0 h in (below, subst (λ b. bit_at b k ≡ 1) (knows.bits n) on)),
        (λ (below, on). (same x).1 (below, subst (λ b. bit_at b k ≡ 1) (sym (knows.bits n)) on)),
      )

  pub closed_put : AreSame (HasFact facts) (λ x. Any (λ s. PutHas keys (view s) x) ss)
  closed_put x =
      let all = gathered_has keys (λ v. v.put) (λ v w. refl) refl ss x in
      ((λ h. all.0 ((has_put x).0 h)), (λ any. (has_put x).1 (all.1 any)))

  pub closed_seen : Holds (HasFact facts) (λ x. Any (λ s. SeenHas keys (view s) x) ss)
  closed_seen x any =
      let all = gathered_has keys (λ v. v.seen) (λ v w. refl) refl ss x in
      (has_put x).1 (PairsHave-within keys (gathered ss).seen (gathered ss).put knows.inside x (all.1 any))

  pub closed_claims : (n : ℕ) × ((x : ℕ) → times x (claims_of ss) ≡ once_below x n)
  closed_claims = (slice_index ws 0, λ x. ap (times x) (sym (gathered_claims ss)) ∙ knows.once x)
