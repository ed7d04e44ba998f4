-- The facts and the totals of a journal, and what one more entry does to them.
use Rattle.ld_book.proofs.Names.{[], ◌++◌, ◌+◌, ◌↔◌, ◌∙◌, ◌∷◌, ◌≡◌, Adds, Any-push, AreSame, Bool, ChainHas, ChainParts, Fact, FactParts, HasFact, Holds, IsLawful, JournalHas, List, None, Option, Some, acquisition_count, ap, arith, cond, false, inl, inr, is_none, is_some, length, length-append, opening_count, option_map, refl, subst, sym, true, ℕ}
use Rattle.std.specs.Int.{from_bool}
use Rattle.std.proofs.lemmas.List.Sums.{sum_by_push, sum_by-cons}

-- ---- facts
-- no facts are those of a journal without entries
pub AreSame-none : (facts : FactParts) → ((x : Fact) → ¬ HasFact facts x) → AreSame (HasFact facts) (JournalHas [])
AreSame-none facts none x = ((λ h. absurd (none x h)), (λ h. absurd (let l = h.2 in omega arith)))

module _ (facts : FactParts) (journal : List (ℕ × ChainParts)) (are : AreSame (HasFact facts) (JournalHas journal)) where
  -- with the facts of one more entry
  pub AreSame-adds : (new : FactParts) (trace : ℕ) (chain : ChainParts) →
      Adds (HasFact facts) (HasFact new) (ChainHas chain) → AreSame (HasFact new) (JournalHas (journal ++ (trace, chain) ∷ []))
  AreSame-adds new trace chain adds x =
      let more = Any-push (λ e. ChainHas e.1 x) journal (trace, chain) in (
        (λ h. more.1 (elim ((adds x).0 h) [ inl old ↦ inl ((are x).0 old) | inr has ↦ inr has ])),
        (λ h. (adds x).1 (elim (more.0 h) [ inl old ↦ inl ((are x).1 old) | inr has ↦ inr has ])),
      )

  -- a chain's facts are there if they were recorded
  pub Holds-iff : (chain : ChainParts) → Holds (HasFact facts) (ChainHas chain) ↔ Holds (JournalHas journal) (ChainHas chain)
  Holds-iff chain = ((λ held x has. (are x).0 (held x has)), (λ recorded x has. (are x).1 (recorded x has)))

-- a chain without facts is recorded by every journal
pub Holds-none : (journal : List (ℕ × ChainParts)) (chain : ChainParts) → Holds (JournalHas []) (ChainHas chain) → Holds (JournalHas journal) (ChainHas chain)
Holds-none journal chain none = λ x has. absurd (let l = (none x has).2 in omega arith)

-- ---- totals
from_bool-cond : (b : Bool) → from_bool b ≡ cond b 1 0
from_bool-cond true = refl
from_bool-cond false = refl

pub acquisition_count-push : (journal : List (ℕ × ChainParts)) (trace : ℕ) (chain : ChainParts) →
    acquisition_count (journal ++ (trace, chain) ∷ []) ≡ acquisition_count journal + from_bool (is_some chain.new_lock)
acquisition_count-push journal trace chain =
    sum_by_push (λ (e : ℕ × ChainParts). cond (is_some e.1.new_lock) 1 0) journal (trace, chain) ∙
    ap (λ n. acquisition_count journal + n) (sym (from_bool-cond (is_some chain.new_lock)))

-- each entry is an acquisition or an opening
pub counts-length : (journal : List (ℕ × ChainParts)) → acquisition_count journal + opening_count journal ≡ length journal
counts-length [] = refl
counts-length (e ∷ journal) =
    let taken = sum_by-cons (λ (e : ℕ × ChainParts). cond (is_some e.1.new_lock) 1 0) e journal in
    let opened = sum_by-cons (λ (e : ℕ × ChainParts). cond (is_none e.1.new_lock) 1 0) e journal in
    omega (arith, taken, opened, one e.1.new_lock, counts-length journal)
  where
    one : {A : Type 0} (new : Option A) → cond (is_some new) 1 0 + cond (is_none new) 1 0 ≡ 1
    one None = refl
    one (Some _) = refl

-- an acquisition is known by its new lock
pub from_bool-taken : {A B : Type 0} (f : A → B) (new : Option A) (taken : Option B) (is_acquisition : Bool) (n : ℕ) →
    taken ≡ option_map f new → is_acquisition ≡ is_some taken → n ≡ from_bool is_acquisition → n ≡ from_bool (is_some new)
from_bool-taken {A = A} {B = B} f new taken is_acquisition n is told counted =
    counted ∙ ap from_bool (told ∙ ap is_some is ∙ same new)
  where
    same : (new : Option A) → is_some (option_map f new) ≡ is_some new
    same None = refl
    same (Some _) = refl

-- the test of the length found that there is room
pub has_room : (place count limit : ℕ) → place ≡ count → ¬ (place ≡ limit) → ¬ (count ≡ limit)
has_room place count limit is differs = λ e. differs (is ∙ e)

-- ---- a lawful book with one more entry
pub IsLawful-entered : (old new : FactParts) (journal entered : List (ℕ × ChainParts)) (acquisitions limit trace : ℕ) (chain : ChainParts) →
    IsLawful old journal acquisitions limit → ¬ (length journal ≡ limit) → entered ≡ journal ++ (trace, chain) ∷ [] →
    AreSame (HasFact new) (JournalHas (journal ++ (trace, chain) ∷ [])) →
    IsLawful new entered (acquisitions + from_bool (is_some chain.new_lock)) limit
IsLawful-entered old new journal entered acquisitions limit trace chain lawful room is facts = subst
    (λ j. IsLawful new j (acquisitions + from_bool (is_some chain.new_lock)) limit) (sym is) (record {
      facts_are = facts;
      counted = ap (λ n. n + from_bool (is_some chain.new_lock)) lawful.counted ∙ sym (acquisition_count-push journal trace chain);
      within = let had = lawful.within in omega (arith, length-append journal ((trace, chain) ∷ []));
    })
