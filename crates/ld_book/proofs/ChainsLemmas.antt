-- Distinct chains in order, and one more of them.
use Rattle.ld_book.proofs.Names.{[], ◌++◌, ◌+◌, ◌<◌, ◌||◌, ◌∙◌, ◌∷◌, ◌≡◌, AllByRecursion, AreChains, ChainParts, Contains, List, PutsChain, Some, ap, append-nil, append_assoc, arith, chain_eq, chain_eq-decides, chain_eq-equivalence, false, get_or, get_or_append_left, get_or_default, get_or_from_slice_get, get_or_push, if◌then◌else◌, inl, inr, insert_key, length, length-append, list_any, list_any-from_Contains, no_chain, position, refl, slice_get, slice_get_read, slice_get_within, sym, true, true≢false, ℕ}
use Rattle.std.specs.List.{IsDistinct}
use Rattle.std.proofs.lemmas.Bool.{cases_Bool, cases_lt}
use Rattle.std.proofs.lemmas.List.Quantifiers.{position-Some}
use Rattle.std.proofs.lemmas.Map.Keys.{IsDistinct-push}

-- ---- what distinct says of one of them
differs-later : (k : ChainParts) (ks : List ChainParts) (x : ChainParts) (xs : List ChainParts) → AllByRecursion (λ y. chain_eq k y ≡ false) (ks ++ x ∷ xs) →
    chain_eq k x ≡ false
differs-later k [] x xs h = h.0
differs-later k (y ∷ ys) x xs h = differs-later k ys x xs h.1

-- none before it is equal to it
absent-before : (ks : List ChainParts) (x : ChainParts) (xs : List ChainParts) → IsDistinct chain_eq (ks ++ x ∷ xs) → list_any (chain_eq x) ks ≡ false
unfolding IsDistinct
absent-before [] x xs d = refl
absent-before (y ∷ ys) x xs d =
    let here : chain_eq x y ≡ false = chain_eq-equivalence.symm x y ∙ differs-later y ys x xs d.0 in
    ap (λ b. b || list_any (chain_eq x) ys) here ∙ absent-before ys x xs d.1

-- the next one moves from what follows to the end of the set
pub inserted-next : (keys rest new : List ChainParts) (chain : ChainParts) → IsDistinct chain_eq (keys ++ chain ∷ rest) → new ≡ insert_key chain_eq keys chain →
    new ++ rest ≡ keys ++ chain ∷ rest
inserted-next keys rest new chain distinct inserted =
    let pushed : new ≡ keys ++ chain ∷ [] = inserted ∙ ap (λ b. if b then keys else keys ++ chain ∷ []) (absent-before keys chain rest distinct) in
    ap (λ l. l ++ rest) pushed ∙ append_assoc keys (chain ∷ []) rest

-- they stay distinct if one that is none of them is appended
pub AreChains-push : (all : List ChainParts) (chain : ChainParts) → AreChains all → ¬ (list_any (chain_eq chain) all ≡ true) → AreChains (all ++ chain ∷ [])
AreChains-push all chain are absent = elim (cases_Bool (list_any (chain_eq chain) all)) [
  | inl found ↦ absurd (absent found)
  | inr none ↦ IsDistinct-push chain_eq-equivalence all chain are none
]

-- ---- the number of one
-- the place that a search finds is that of the chain
pub found-at : (keys latest : List ChainParts) (chain : ChainParts) (n : ℕ) → position (chain_eq chain) keys ≡ Some n → slice_get (keys ++ latest) n ≡ Some chain
found-at keys latest chain n found =
    let (within, equal, first) = position-Some (chain_eq chain) keys n chain found in
    let at : get_or (keys ++ latest) n chain ≡ chain = get_or_append_left keys latest chain n within ∙ sym ((chain_eq-decides chain (get_or keys n chain)).0 equal) in
    slice_get_read (keys ++ latest) (length (keys ++ latest)) n chain refl (omega (arith, within, length-append keys latest)) (sym at)

-- one that is there already
pub PutsChain-there : (all : List ChainParts) (n : ℕ) (chain : ChainParts) → slice_get all n ≡ Some chain → PutsChain all all n chain
PutsChain-there all n chain at = record {
  more = [];
  extends = sym (append-nil all);
  within = slice_get_within all n chain at;
  is = get_or_from_slice_get all n chain no_chain at;
  only = λ m l. inl l;
}

-- one that is appended
pub PutsChain-new : (old new : List ChainParts) (n : ℕ) (chain : ChainParts) → new ≡ old ++ chain ∷ [] → n ≡ length old → PutsChain old new n chain
PutsChain-new old new n chain is at =
    let long : length new ≡ length old + 1 = ap length is ∙ length-append old (chain ∷ []) in record {
      more = chain ∷ [];
      extends = is;
      within = omega (arith, long, at);
      is = ap (λ l. get_or l n no_chain) is ∙ get_or_push old chain no_chain n (sym at);
      only = λ m l. elim (cases_lt m (length old)) [
        | inl below ↦ inl below
        | inr past ↦ inr (omega (arith, past, l, long, at))
      ];
    }

-- one that is inserted
module _ (old new : List ChainParts) (number : ℕ) (chain kept : ChainParts) (inserted : new ≡ insert_key chain_eq old chain)
    (within : number < length new) (at : slice_get new number ≡ Some kept) (same : chain_eq chain kept ≡ true) where
  is_there : get_or new number no_chain ≡ chain
  is_there = get_or_from_slice_get new number kept no_chain at ∙ sym ((chain_eq-decides chain kept).0 same)

  -- a new chain comes after the others
  behind : list_any (chain_eq chain) old ≡ false → new ≡ old ++ chain ∷ [] → number ≡ length old
  behind absent is = elim (cases_lt number (length old)) [
    | inl l ↦
        let found : get_or old number no_chain ≡ chain =
        sym (get_or_append_left old (chain ∷ []) no_chain number l) ∙ ap (λ xs. get_or xs number no_chain) (sym is) ∙ is_there in
        let has : Contains old chain = (number, l, get_or_default old number chain no_chain l ∙ found) in
        absurd (true≢false (sym (list_any-from_Contains chain_eq-equivalence chain old has) ∙ absent))
    | inr past ↦ omega (arith, length-append old (chain ∷ []), ap length is)
  ]

  pub PutsChain-inserted : PutsChain old new number chain
  PutsChain-inserted = elim (cases_Bool (list_any (chain_eq chain) old)) [
    | inl found ↦
        let stays : new ≡ old = inserted ∙ ap (λ c. if c then old else old ++ chain ∷ []) found in record {
          more = [];
          extends = stays ∙ sym (append-nil old);
          within = within;
          is = is_there;
          only = λ n l. inl (omega (arith, ap length stays));
        }
    | inr absent ↦
        let grows : new ≡ old ++ chain ∷ [] = inserted ∙ ap (λ c. if c then old else old ++ chain ∷ []) absent in record {
          more = chain ∷ [];
          extends = grows;
          within = within;
          is = is_there;
          only = λ n l. elim (cases_lt n (length old)) [
            | inl below ↦ inl below
            | inr past ↦ inr (omega (arith, behind absent grows, length-append old (chain ∷ []), ap length grows))
          ];
        }
  ]
