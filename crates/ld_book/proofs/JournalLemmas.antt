-- A journal that keeps each distinct chain once, and one more entry in it.
use Rattle.ld_book.proofs.Names.{[], ◌++◌, ◌<◌, ◌↔◌, ◌∙◌, ◌∷◌, ◌≡◌, ◌≤◌, All, Any-push, ChainParts, Contains, Contains-from_any, EntryParts, IsJournal, IsNumberOf, List, PutsChain, Some, StandsIn, ap, arith, chain_eq, chain_eq-decides, chain_eq-equivalence, entry_of, get_or, get_or-map, get_or_append_left, get_or_default, get_or_from_slice_get, inl, inr, journal_of, length, length-append, length-map, list_any, list_any-from_Contains, map-append, no_chain, refl, slice_get, slice_get_within, sym, true, ℕ}
use Rattle.std.specs.List.{IsDistinct}
use Rattle.std.proofs.lemmas.List.Elements.{All-head, All-tail, All-push, All-weaker}
use Rattle.std.proofs.lemmas.Map.Made.{AllPairs-from_IsDistinct}

-- the entries mean the same if more chains follow
journal_of-more : (chains more : List ChainParts) (entries : List EntryParts) → All (λ (e : EntryParts). e.number < length chains) entries →
    journal_of (chains ++ more) entries ≡ journal_of chains entries
journal_of-more chains more [] below = refl
journal_of-more chains more (e ∷ entries) below =
    let head : entry_of (chains ++ more) e ≡ entry_of chains e = ap (λ c. (e.trace, c))
    (get_or_append_left chains more no_chain e.number (All-head (λ (e : EntryParts). e.number < length chains) e entries below)) in
    let tail = journal_of-more chains more entries (All-tail (λ (e : EntryParts). e.number < length chains) e entries below) in
    λ i. head i ∷ tail i

-- ---- what is in the journal is what the chains are
module _ (chains : List ChainParts) (entries : List EntryParts) (is_journal : IsJournal chains entries) (chain : ChainParts) where
  stands : Contains chains chain → StandsIn (journal_of chains entries) chain
  stands (n, l, is) =
      let (k, e, lk, at, number) = is_journal.entered n l in (
        k,
        entry_of chains e,
        rw (length-map entries (entry_of chains)) lk,
        get_or-map (entry_of chains) entries k e (entry_of chains e) lk ∙ ap (entry_of chains) at,
        ap (λ m. get_or chains m no_chain) number ∙ get_or_default chains n no_chain chain l ∙ is,
      )

  contains : StandsIn (journal_of chains entries) chain → Contains chains chain
  contains (k, e, l, at, is) =
      let first : EntryParts = record { trace = 0; number = 0 } in
      let lk : k < length entries = omega (arith, l, length-map entries (entry_of chains)) in
      let entry : EntryParts = get_or entries k first in
      let within : entry.number < length chains = is_journal.numbers k first lk in
      let same : entry_of chains entry ≡ e = sym (get_or-map (entry_of chains) entries k first e lk) ∙ at in (
        entry.number,
        within,
        get_or_default chains entry.number chain no_chain within ∙ ap (λ (e : ℕ × ChainParts). e.1) same ∙ is,
      )

  pub StandsIn-at : (n : ℕ) → slice_get chains n ≡ Some chain → StandsIn (journal_of chains entries) chain
  StandsIn-at n at = stands (n, slice_get_within chains n chain at, get_or_from_slice_get chains n chain chain at)

  pub Contains-iff : Contains chains chain ↔ StandsIn (journal_of chains entries) chain
  Contains-iff = (stands, contains)

  -- so the test of the chains finds it
  pub list_any-iff : (list_any (chain_eq chain) chains ≡ true) ↔ StandsIn (journal_of chains entries) chain
  list_any-iff = (
    (λ found. stands (Contains-from_any (λ x y. (chain_eq-decides x y).0) chain chains found)),
    (λ h. list_any-from_Contains chain_eq-equivalence chain chains (contains h)),
  )

-- as many distinct chains as are kept
pub IsNumberOf-kept : (chains : List ChainParts) (entries : List EntryParts) → IsJournal chains entries → IsDistinct chain_eq chains →
    IsNumberOf (StandsIn (journal_of chains entries)) (length chains)
IsNumberOf-kept chains entries is_journal distinct = record {
  listed = chains;
  once = AllPairs-from_IsDistinct chain_eq-decides chains distinct;
  exact = λ chain. Contains-iff chains entries is_journal chain;
  count = refl;
}

-- ---- one more entry
module _ (old new : List ChainParts) (entries : List EntryParts) (is_journal : IsJournal old entries) (trace number : ℕ) (chain : ChainParts)
    (puts : PutsChain old new number chain) where
  abbrev entered : EntryParts
  entered = record { trace = trace; number = number }

  longer : length old ≤ length new
  longer = omega (arith, ap length puts.extends, length-append old puts.more)

  pub IsJournal-push : IsJournal new (entries ++ entered ∷ [])
  IsJournal-push = record {
    numbers = All-push (λ (e : EntryParts). e.number < length new) entries entered
        (All-weaker (λ (e : EntryParts). e.number < length old) (λ (e : EntryParts). e.number < length new) (λ e l. omega (arith, longer)) entries is_journal.numbers)
        puts.within;
    entered = λ n l. (Any-push (λ (e : EntryParts). e.number ≡ n) entries entered).1 (elim (puts.only n l) [
      | inl below ↦ inl (is_journal.entered n below)
      | inr e ↦ inr (sym e)
    ]);
  }

  pub journal_of-push : journal_of new (entries ++ entered ∷ []) ≡ journal_of old entries ++ (trace, chain) ∷ []
  journal_of-push =
      let before : journal_of new entries ≡ journal_of old entries =
      ap (λ chains. journal_of chains entries) puts.extends ∙ journal_of-more old puts.more entries is_journal.numbers in
      let last : entry_of new entered ≡ (trace, chain) = ap (λ c. (trace, c)) puts.is in
      map-append (entry_of new) entries (entered ∷ []) ∙ (λ i. before i ++ last i ∷ [])
