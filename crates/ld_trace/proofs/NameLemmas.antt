-- The names of a table, and a set of values that stand for them.
use Rattle.ld_trace.proofs.Names.{[], ◌++◌, ◌∙◌, ◌∷◌, ◌≡◌, ◌≤◌, AllByRecursion, AreNumbered, Bool, List, MAX_KEYS, Name, None, Some, arith, cond, false, if◌then◌else◌, insert_key, is_known, is_name, is_one_too_many, is_same, length, list_all, list_all-append, list_any, map, map-append, nat_lt, nat_tests, place_of, position, position_or_len, refl, sym, true, with_name, ℕ}
use Rattle.std.specs.List.{IsDistinct}

module _ {X : Type 0} (f : X → Name) (eq : X → X → Bool) (says : (a b : X) → eq a b ≡ is_same (f a) (f b)) where
  -- a value is in the set exactly if its name is known
  pub known-map : (ks : List X) (v : X) → list_any (eq v) ks ≡ is_known (map f ks) (f v)
  known-map [] v = refl
  known-map (k ∷ ks) v = rw (says v k, known-map ks v)

  -- its place in the set is that of its name
  pub place-map : (ks : List X) (v : X) → position_or_len (eq v) ks ≡ place_of (map f ks) (f v)
  place-map [] v = refl
  place-map (k ∷ ks) v = rw (says v k, place-map ks v)

  -- the names after an insertion
  pub with_name-map : (ks : List X) (v : X) → map f (insert_key eq ks v) ≡ with_name (map f ks) (f v)
  with_name-map ks v = by (list_any (eq v) ks) refl
    where
      by : (b : Bool) → list_any (eq v) ks ≡ b → map f (insert_key eq ks v) ≡ with_name (map f ks) (f v)
      by true e = rw (← known-map ks v, e)
      by false e = rw (← known-map ks v, e, map-append f ks (v ∷ []))

  -- values that differ have names that differ
  all-differ : (v : X) (ks : List X) → AllByRecursion (λ k. eq v k ≡ false) ks → AllByRecursion (λ n. is_same (f v) n ≡ false) (map f ks)
  all-differ v [] h = tt
  all-differ v (k ∷ ks) h = (sym (says v k) ∙ h.0, all-differ v ks h.1)

  pub distinct-map : (ks : List X) → IsDistinct eq ks → IsDistinct is_same (map f ks)
  unfolding IsDistinct
  distinct-map [] h = tt
  distinct-map (k ∷ ks) h = (all-differ k ks h.0, distinct-map ks h.1)

-- one more name
pub named-with_name : (names : List Name) (name : Name) → list_all is_name names ≡ true → is_name name ≡ true → list_all is_name (with_name names name) ≡ true
named-with_name names name all one = by (is_known names name)
  where
    by : (b : Bool) → list_all is_name (if b then names else names ++ name ∷ []) ≡ true
    by true = all
    by false = rw (list_all-append is_name names (name ∷ []), all, one)

-- a table without names
pub AreNumbered-none : (room : ℕ) → room ≤ MAX_KEYS → AreNumbered (record { room = room; names = [] })
unfolding IsDistinct
AreNumbered-none room most = record { most = most; few = omega arith; named = refl; once = tt }

-- a known name is not one too many
pub fits-known : (room : ℕ) (names : List Name) (name : Name) → is_known names name ≡ true → is_one_too_many room names name ≡ false
fits-known room names name known = rw known refl

-- a new one is, if there is no room
pub too-many-new : (room : ℕ) (names : List Name) (name : Name) → is_known names name ≡ false → room ≤ length names → is_one_too_many room names name ≡ true
too-many-new room names name new full = rw new (grind (arith, nat_tests))

-- the place that a search found
pub position-found : {X : Type 0} (p : X → Bool) (xs : List X) (i : ℕ) → Some i ≡ position p xs → i ≡ position_or_len p xs
position-found p xs i e = by (nat_lt (position_or_len p xs) (length xs)) e
  where
    by : (b : Bool) → Some i ≡ cond b (Some (position_or_len p xs)) None → i ≡ position_or_len p xs
    by true h = cc
    by false h = cc
