-- The facts of a chain are gathered in words, slot by slot.
use Rattle.ld_facts.proofs.Names.{[], ◌%◌, ◌*◌, ◌+◌, ◌-◌, ◌/◌, ◌<◌, ◌∙◌, ◌∷◌, ◌≡◌, ◌≤◌, AreWordsOf, Bool, ChainHas, ChainKeysBelow, ChainParts, Fact, FactBelow, FactBelow-chain, ForSome, Gathered, HasBit, IsRunOf, List, Lock, Mark, Marked, None, Option, Some, StandsIn-cases, StandsIn-later, TakesFact, TakesMarkBit, TakesRun, ap, arith, bit_at, bit_at-trailing_zeros, bit_at-zero, bit_or-bits, bit_total, bits_if, bits_if-same, bits_of, cases_eq, cases_lt, chain_fact, chain_fact-complete, chain_fact-sound, dependency_from, dependency_total, fact_number, fact_number-lt, fact_number-same, fact_slots, get_or, inl, inr, is_read, key_and_mode, le-ltb, length, lt-ltb, mark_by_opening, mark_by_taking, mark_if, mark_if-some, mark_index, mark_of_held, marks_opened, marks_taken, none-some, refl, same_Some, slice_get, subst, suc, sym, trailing_zeros, w64, word_total, zero, ℕ}
use Rattle.std.specs.Option.{option_map}
use Rattle.ld_trace.specs.declared.event.Mode.{Mode}
use Rattle.ld_task.specs.declared.frame.Flags.{Flags}
use Rattle.ld_task.specs.declared.frame.Frame.{Frame}

-- ---- the facts in the slots
pub chain_fact-dependency : (c : ChainParts) (lock : Lock) (frame : Frame) (i : ℕ) → c.new_lock ≡ Some (lock, frame) →
    i < length c.held_locks → chain_fact c i ≡ dependency_from (slice_get c.held_locks i) lock
chain_fact-dependency c lock frame i is l = rw (is, lt-ltb i (length c.held_locks) l) refl

pub chain_fact-mark_of_new : (c : ChainParts) (lock : Lock) (frame : Frame) (n : ℕ) → c.new_lock ≡ Some (lock, frame) →
    chain_fact c (length c.held_locks + n) ≡ mark_if (marks_taken lock.mode frame c.flags) lock.key (mark_by_taking (is_read lock.mode) n)
chain_fact-mark_of_new c lock frame n is =
    let after : length c.held_locks + n - length c.held_locks ≡ n = omega arith in
    rw (is, le-ltb (length c.held_locks + n) (length c.held_locks) (omega arith))
    (ap (λ k. mark_if (marks_taken lock.mode frame c.flags) lock.key (mark_by_taking (is_read lock.mode) k)) after)

pub chain_fact-mark_of_held : (c : ChainParts) (n : ℕ) → c.new_lock ≡ None →
    chain_fact c n ≡ mark_of_held (slice_get c.held_locks (n / 2)) c.flags (n % 2)
chain_fact-mark_of_held c n is = rw is refl

pub fact_slots-taking : (c : ChainParts) (lock : Lock) (frame : Frame) → c.new_lock ≡ Some (lock, frame) → fact_slots c ≡ length c.held_locks + 5
fact_slots-taking c lock frame is = rw is refl

pub fact_slots-opening : (c : ChainParts) → c.new_lock ≡ None → fact_slots c ≡ length c.held_locks * 2
fact_slots-opening c is = rw is refl

pub FactBelow-slot : (keys : ℕ) (c : ChainParts) (n : ℕ) (fact : Option Fact) → ChainKeysBelow keys c → chain_fact c n ≡ fact → ForSome fact (FactBelow keys)
FactBelow-slot keys c n fact below at = λ x e. FactBelow-chain keys c x below (chain_fact-sound c n x (at ∙ e))

-- ---- one slot after the other
pub Gathered-more : (keys : ℕ) (c : ChainParts) (pairs new : List (ℕ × ℕ)) (n : ℕ) (fact : Option Fact) →
    Gathered keys c pairs n → chain_fact c n ≡ fact → TakesFact keys pairs new fact → Gathered keys c new (n + 1)
Gathered-more keys c pairs new n fact was at takes = record {
  words = takes.words;
  few = let a = takes.few in let b = was.few in omega arith;
  bits = λ m. (
    (λ h. elim ((takes.bits m).0 h) [
      | inl o ↦ let (x, s, is) = (was.bits m).0 o in (x, StandsIn-later c x n s, is)
      | inr (x, e, is) ↦ (x, (n, omega arith, at ∙ e), is)
    ]),
    (λ (x, s, is). (takes.bits m).1 (elim (StandsIn-cases c x n s) [
      | inl t ↦ inl ((was.bits m).1 (x, t, is))
      | inr e ↦ inr (x, sym at ∙ e, is)
    ])),
  );
}

-- ---- a run of marks
pub IsRunOf-start : (c : ChainParts) (key first : ℕ) → IsRunOf c key first first 0
IsRunOf-start c key first = record {
  only = λ n x l m. absurd (omega arith);
  bits = λ k. ((λ on. absurd (omega (arith, bit_at-zero k))), (λ (mark, n, l, m, at, is). absurd (omega arith)));
}

-- the fact is a mark of the key, if there is one
abbrev pub IsMarkOf : ℕ → Option Fact → Type 0
IsMarkOf key fact = ForSome fact (λ x. (mark : Mark) × (x ≡ Marked key mark))

pub IsMarkOf-if : (gives : Mark → Bool) (key : ℕ) (mark : Mark) → IsMarkOf key (mark_if gives key mark)
IsMarkOf-if gives key mark x e = (mark, sym (mark_if-some gives key mark x e).1)

pub IsRunOf-more : (c : ChainParts) (key first n run new : ℕ) (fact : Option Fact) → first ≤ n → IsRunOf c key first n run →
    chain_fact c n ≡ fact → IsMarkOf key fact → TakesMarkBit run new fact → IsRunOf c key first (n + 1) new
IsRunOf-more c key first n run new fact from was at mark takes = record {
  only = λ m x l lm e. elim (cases_eq m n) [
    | inl same ↦ mark x (sym at ∙ subst (λ j. chain_fact c j ≡ Some x) same e)
    | inr ne ↦ was.only m x l (omega arith) e
  ];
  bits = λ k. (
    (λ on. elim ((takes k).0 on) [
      | inl o ↦ let (mark, m, l, lm, e, is) = (was.bits k).0 o in (mark, m, l, omega arith, e, is)
      | inr (of, m, e, is) ↦
          let (_, same) = mark (Marked of m) e in
          let key_is : of ≡ key = cc in
          (m, n, from, omega arith, at ∙ e ∙ ap (λ j. Some (Marked j m)) key_is, is)
    ]),
    (λ (m, j, l, lj, e, is). (takes k).1 (elim (cases_eq j n) [
      | inl same ↦ inr (key, m, sym at ∙ subst (λ i. chain_fact c i ≡ Some (Marked key m)) same e, is)
      | inr ne ↦ inl ((was.bits k).1 (m, j, l, omega arith, e, is))
    ])),
  );
}

-- the marks of a held lock
pub chain_fact-held : (c : ChainParts) (i n : ℕ) → n < 2 → c.new_lock ≡ None →
    chain_fact c (i * 2 + n) ≡ mark_of_held (slice_get c.held_locks i) c.flags n
chain_fact-held c i n l is =
    let half : (i * 2 + n) / 2 ≡ i = omega arith in
    let odd : (i * 2 + n) % 2 ≡ n = omega arith in
    chain_fact-mark_of_held c (i * 2 + n) is ∙ (λ j. mark_of_held (slice_get c.held_locks (half j)) c.flags (odd j))

pub IsMarkOf-held : (o : Option Lock) (flags : Flags) (n key : ℕ) (mode : Mode) → option_map key_and_mode o ≡ Some (key, mode) →
    IsMarkOf key (mark_of_held o flags n)
IsMarkOf-held None flags n key mode e = absurd (none-some (key, mode) e)
IsMarkOf-held (Some old) flags n key mode e =
    let same = same_Some (old.key, old.mode) (key, mode) e in
    let key_is : old.key ≡ key = ap (λ (p : ℕ × Mode). p.0) same in
    subst (λ k. IsMarkOf k (mark_of_held (Some old) flags n)) key_is (IsMarkOf-if (marks_opened old.mode flags) old.key (mark_by_opening (is_read old.mode) n))

pub Gathered-run : (keys : ℕ) (c : ChainParts) (pairs new : List (ℕ × ℕ)) (key first last run : ℕ) → first + 2 ≤ last →
    Gathered keys c pairs first → IsRunOf c key first last run → TakesRun pairs new (dependency_total keys + key * 9) run →
    Gathered keys c new last
Gathered-run keys c pairs new key first last run more was of takes = record {
  words = takes.words;
  few = let a = takes.few in let b = was.few in omega arith;
  bits = λ m. (
    (λ h. elim ((takes.bits m).0 h) [
      | inl o ↦ let (x, (n, l, e), is) = (was.bits m).0 o in (x, (n, omega arith, e), is)
      | inr (k, on, is) ↦
          let (mark, n, l, ln, e, place) = (of.bits k).0 on in
          (Marked key mark, (n, ln, e), omega arith)
    ]),
    (λ (x, (n, l, e), is). (takes.bits m).1 (elim (cases_lt n first) [
      | inl before ↦ inl ((was.bits m).1 (x, (n, before, e), is))
      | inr from ↦
          let (mark, same) = of.only n x from l e in
          let at : fact_number keys (Marked key mark) ≡ m = ap (fact_number keys) (sym same) ∙ is in
          inr (mark_index mark, (of.bits (mark_index mark)).1 (mark, n, from, l, e ∙ ap Some same, refl), omega arith)
    ])),
  );
}

-- ---- all slots
-- a pair's bits are among those of its word
pub bits_of-pair : (pairs : List (ℕ × ℕ)) (i k : ℕ) (d : ℕ × ℕ) → i < length pairs → bit_at (get_or pairs i d).1 k ≡ 1 →
    bit_at (bits_of (get_or pairs i d).0 pairs) k ≡ 1
bits_of-pair [] i k d l on = absurd (omega arith)
bits_of-pair (p ∷ ps) zero k d l on =
    (bit_or-bits (bits_if p.0 p) (bits_of p.0 ps) k).1 (inl (ap (λ b. bit_at b k) (bits_if-same p.0 p refl) ∙ on))
bits_of-pair (p ∷ ps) (suc i) k d l on =
    let n : ℕ = (get_or ps i d).0 in
    (bit_or-bits (bits_if n p) (bits_of n ps) k).1 (inr (bits_of-pair ps i k d (omega arith) on))

module _ (keys : ℕ) (c : ChainParts) (pairs : List (ℕ × ℕ)) (below : ChainKeysBelow keys c) (all : Gathered keys c pairs (fact_slots c)) where
  -- each bit that is set is that of a fact of the chain
  fact_at_bit : (n : ℕ) → HasBit pairs n → (x : Fact) × ChainHas c x × (fact_number keys x ≡ n)
  fact_at_bit n h = let (x, s, is) = (all.bits n).0 h in (x, chain_fact-sound c s.0 x s.2, is)

  last : (i k : ℕ) (d : ℕ × ℕ) → i < length pairs → k < 64 → bit_at (get_or pairs i d).1 k ≡ 1 → (get_or pairs i d).0 * 64 + k < bit_total keys
  last i k d l lk on =
      let w : ℕ = (get_or pairs i d).0 in
      let q : (w * 64 + k) / 64 ≡ w = omega arith in
      let r : (w * 64 + k) % 64 ≡ k = omega arith in
      let here : bit_at (bits_of w pairs) k ≡ 1 = bits_of-pair pairs i k d l on in
      let has : HasBit pairs (w * 64 + k) = subst (λ m. bit_at (bits_of m pairs) ((w * 64 + k) % 64) ≡ 1) (sym q) (subst (λ j. bit_at (bits_of w pairs) j ≡ 1) (sym r) here) in
      let (x, has_x, is) = fact_at_bit (w * 64 + k) has in
      subst (λ n. n < bit_total keys) is (fact_number-lt keys x (FactBelow-chain keys c x below has_x))

  low : (i : ℕ) (d : ℕ × ℕ) → i < length pairs → (get_or pairs i d).0 < word_total keys
  low i d l =
      let b : ℕ = (get_or pairs i d).1 in
      let some : 0 < b = (let ne = all.words.some i d l in omega arith) in
      let first = bit_at-trailing_zeros w64 b some (all.words.fits i d l) in
      let n = last i (trailing_zeros w64 b) d l first.0 first.1 in
      omega arith

  pub AreWordsOf-gathered : AreWordsOf keys c pairs
  AreWordsOf-gathered = record {
    below = low;
    once = all.words.once;
    some = all.words.some;
    fits = all.words.fits;
    none_past = λ i d l k lk on. last i k d l lk on;
    facts = λ x. (
      (λ (x_below, on). let (y, has, is) = fact_at_bit (fact_number keys x) on in
          subst (ChainHas c) (fact_number-same keys y x (FactBelow-chain keys c y below has) x_below is) has),
      (λ has. (FactBelow-chain keys c x below has, (all.bits (fact_number keys x)).1 (x, chain_fact-complete c x has, refl))),
    );
  }
