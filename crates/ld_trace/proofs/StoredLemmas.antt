-- The names of a set of stored names.
use Rattle.ld_trace.proofs.Names.{[], ◌∙◌, ◌∷◌, ◌≡◌, ◌≤◌, AreNumbered, IndexSet, IsUnique, List, MAX_SUB, Name, Some, and_from, and_parts, ap, arith, insert_key, is_class_name, is_known, is_name, is_same, length, list_all, list_any, map, name_of, names_of, nat_le, nat_tests, place_of, position, position_or_len, refl, slice_get, suc, sym, take, true, with_name, zero, ℕ}
use Rattle.std.specs.List.{IsDistinct}
use Rattle.indexmap.proofs.MapLemmas.{distinct-take}
use Rattle.ld_trace.specs.contracts.stored_name.StoredNamePartialEq.TheImpl.{eq-value}
use Rattle.ld_trace.specs.declared.stored_name.StoredName.{StoredName}
use Rattle.ld_trace.proofs.KnownLemmas.{is_same-laws}
use Rattle.ld_trace.proofs.NameLemmas.{position-found, known-map, place-map, with_name-map, distinct-map}

-- two stored names are equal exactly if their names are
eq-is_same : (a b : StoredName) → eq-value.it a b ≡ is_same (name_of a) (name_of b)
eq-is_same a b = refl

module _ {S : Type 0} (set : IndexSet StoredName S) where
  pub known-stored : (v : StoredName) → list_any (eq-value.it v) set.keys ≡ is_known (names_of set) (name_of v)
  known-stored v = known-map name_of eq-value.it eq-is_same set.keys v

  pub place-stored : (v : StoredName) → position_or_len (eq-value.it v) set.keys ≡ place_of (names_of set) (name_of v)
  place-stored v = place-map name_of eq-value.it eq-is_same set.keys v

  -- the place that a search found
  pub position-stored : (v : StoredName) (i : ℕ) → Some i ≡ position (eq-value.it v) set.keys → i ≡ place_of (names_of set) (name_of v)
  position-stored v i e = position-found (eq-value.it v) set.keys i e ∙ place-stored v

  pub distinct-stored : IsUnique eq-value.it set → IsDistinct is_same (names_of set)
  distinct-stored h = distinct-map name_of eq-value.it eq-is_same set.keys h

  -- the names after an insertion
  pub with_name-stored : (new : IndexSet StoredName S) (v : StoredName) → new.keys ≡ insert_key eq-value.it set.keys v → names_of new ≡ with_name (names_of set) (name_of v)
  with_name-stored new v e = rw e (with_name-map name_of eq-value.it eq-is_same set.keys v)

-- a stored name of a table is a name
pub named-stored : {S : Type 0} (set : IndexSet StoredName S) (i : ℕ) (v : StoredName) → list_all is_name (names_of set) ≡ true → Some v ≡ slice_get set.keys i → is_name (name_of v) ≡ true
named-stored set i v named here = named-at set.keys i named (sym here)
  where
    named-at : (vs : List StoredName) (k : ℕ) → list_all is_name (map name_of vs) ≡ true → slice_get vs k ≡ Some v → is_name (name_of v) ≡ true
    named-at [] k a e = absurd (cc)
    named-at (x ∷ xs) zero a e =
        let same : x ≡ v = cc in
        ap (λ y. is_name (name_of y)) (sym same) ∙ (and_parts (is_name (name_of x)) (list_all is_name (map name_of xs)) a).0
    named-at (x ∷ xs) (suc k) a e = named-at xs k (and_parts (is_name (name_of x)) (list_all is_name (map name_of xs)) a).1 e

-- so its subclass is at most 7
pub sub-stored : {S : Type 0} (set : IndexSet StoredName S) (i : ℕ) (v : StoredName) → list_all is_name (names_of set) ≡ true → Some v ≡ slice_get set.keys i → v.sub ≤ MAX_SUB
sub-stored set i v named here =
    let test = (and_parts (is_class_name v.text.bytes) (nat_le v.sub MAX_SUB) (named-stored set i v named here)).1 in
    grind (arith, nat_tests)

-- the first names of a table are one
pub AreNumbered-first : (room n : ℕ) (names : List Name) → AreNumbered (record { room = room; names = names }) → AreNumbered (record { room = room; names = take n names })
AreNumbered-first room n names h = record {
  most = h.most;
  few = omega (arith, h.few, length-take_le n names);
  named = first-named n names h.named;
  once = distinct-take is_same-laws n names h.once;
}
  where
    length-take_le : (k : ℕ) (ns : List Name) → length (take k ns) ≤ length ns
    length-take_le zero ns = omega arith
    length-take_le (suc k) [] = omega arith
    length-take_le (suc k) (x ∷ xs) = let rest = length-take_le k xs in omega (arith, rest)

    first-named : (k : ℕ) (ns : List Name) → list_all is_name ns ≡ true → list_all is_name (take k ns) ≡ true
    first-named zero ns a = refl
    first-named (suc k) [] a = refl
    first-named (suc k) (x ∷ xs) a =
        let parts = and_parts (is_name x) (list_all is_name xs) a in
        and_from (is_name x) (list_all is_name (take k xs)) parts.0 (first-named k xs parts.1)
