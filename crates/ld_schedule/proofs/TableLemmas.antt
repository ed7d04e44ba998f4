-- The names of a set of stored names, and the messages of a set of messages.
use Rattle.std.proofs.Common.{[], ◌&&◌, ◌++◌, ◌+◌, ◌<◌, ◌==◌, ◌||◌, ◌∙◌, ◌∷◌, ◌≡◌, ◌≤◌, Bool, List, Some, arith, cond, false, if◌then◌else◌, length, map, nat_le, not, position, refl, sym, true, true≢false, ℕ}
use Rattle.std.proofs.lemmas.Bool.Decides.{nat_tests}
use Rattle.std.proofs.lemmas.List.{map-append}
use Rattle.std.specs.List.{list_any, position_or_len}
use Rattle.std.specs.Str.{bytes_eq}
use Rattle.indexmap.specs.IndexSet.{IndexSet, insert_key}
use Rattle.ld_trace.proofs.NameLemmas.{position-found}
use Rattle.ld_schedule.specs.contracts.name_table.StoredNamePartialEq.TheImpl.{eq-value}
use Rattle.ld_schedule.specs.declared.limits.TheConstants.{MAX_RECORDS}
use Rattle.ld_schedule.specs.declared.step.LockKind.{LockKind}
use Rattle.ld_schedule.specs.declared.name_table.StoredName.{StoredName}
use Rattle.ld_schedule.specs.Inside.Stored.{names_of}
use Rattle.ld_schedule.specs.Names.{Text, is_known, is_one_too_many, place_of, with_name}
use Rattle.ld_schedule.specs.Numbers.{Numbers, is_known_message, is_message_too_many, with_lock}

-- the text of a stored name
abbrev text_of : StoredName → Text
text_of stored = stored.text.bytes

-- a stored name is in the set exactly if its text is known
known-stored-keys : (ks : List StoredName) (v : StoredName) → list_any (eq-value.it v) ks ≡ is_known (map text_of ks) (text_of v)
known-stored-keys [] v = refl
known-stored-keys (k ∷ ks) v = rw (known-stored-keys ks v) refl

place-stored-keys : (ks : List StoredName) (v : StoredName) → position_or_len (eq-value.it v) ks ≡ place_of (map text_of ks) (text_of v)
place-stored-keys [] v = refl
place-stored-keys (k ∷ ks) v = rw (place-stored-keys ks v) refl

with-stored-keys : (ks : List StoredName) (v : StoredName) → map text_of (insert_key eq-value.it ks v) ≡ with_name (map text_of ks) (text_of v)
with-stored-keys ks v = by (list_any (eq-value.it v) ks) refl
  where
    by : (b : Bool) → list_any (eq-value.it v) ks ≡ b → map text_of (insert_key eq-value.it ks v) ≡ with_name (map text_of ks) (text_of v)
    by true e = rw (← known-stored-keys ks v, e) refl
    by false e = rw (← known-stored-keys ks v, e, map-append text_of ks (v ∷ [])) refl

module _ {S : Type 0} (set : IndexSet StoredName S) where
  pub known-stored : (v : StoredName) → list_any (eq-value.it v) set.keys ≡ is_known (names_of set) (text_of v)
  known-stored v = known-stored-keys set.keys v

  pub place-stored : (v : StoredName) → position_or_len (eq-value.it v) set.keys ≡ place_of (names_of set) (text_of v)
  place-stored v = place-stored-keys set.keys v

  pub position-stored : (v : StoredName) (i : ℕ) → Some i ≡ position (eq-value.it v) set.keys → i ≡ place_of (names_of set) (text_of v)
  position-stored v i e = position-found (eq-value.it v) set.keys i e ∙ place-stored v

  pub with-stored : (new : IndexSet StoredName S) (v : StoredName) → new.keys ≡ insert_key eq-value.it set.keys v → names_of new ≡ with_name (names_of set) (text_of v)
  with-stored new v e = rw e (with-stored-keys set.keys v)

-- a known name is not one too many, and a new one is, if there is no room
pub fits-known : (names : List Text) (name : Text) → is_known names name ≡ true → is_one_too_many names name ≡ false
fits-known names name known = rw known refl

pub too-many-new : (names : List Text) (name : Text) → is_known names name ≡ false → MAX_RECORDS ≤ length names → is_one_too_many names name ≡ true
too-many-new names name new full = rw new (grind (arith, nat_tests))

pub message-fits-known : (messages : List ℕ) (message : ℕ) → is_known_message messages message ≡ true → is_message_too_many messages message ≡ false
message-fits-known messages message known = rw known refl

pub message-too-many-new : (messages : List ℕ) (message : ℕ) → is_known_message messages message ≡ false → MAX_RECORDS ≤ length messages → is_message_too_many messages message ≡ true
message-too-many-new messages message new full = rw new (grind (arith, nat_tests))

-- a known name has a place among the names, and a new one the place at their end
known-below : (names : List Text) (name : Text) → is_known names name ≡ true → place_of names name < length names
known-below [] name h = absurd (true≢false (sym h))
known-below (x ∷ xs) name h = by (bytes_eq name x) (known-below xs name) h
  where
    by : (b : Bool) → (is_known xs name ≡ true → place_of xs name < length xs) → (b || is_known xs name) ≡ true → cond (not b) (1 + place_of xs name) 0 < length (x ∷ xs)
    by true rest g = omega arith
    by false rest g = omega (arith, rest g)

new-at-end : (names : List Text) (name : Text) → is_known names name ≡ false → place_of names name ≡ length names
new-at-end [] name h = refl
new-at-end (x ∷ xs) name h = by (bytes_eq name x) (new-at-end xs name) h
  where
    by : (b : Bool) → (is_known xs name ≡ false → place_of xs name ≡ length xs) → (b || is_known xs name) ≡ false → cond (not b) (1 + place_of xs name) 0 ≡ length (x ∷ xs)
    by true rest g = absurd (true≢false g)
    by false rest g = omega (arith, rest g)

-- the numbers after a lock was numbered
pub with_lock-new : (numbers : Numbers) (name : Text) (kind : LockKind) → place_of numbers.locks name ≡ length numbers.locks
    → record numbers { locks = with_name numbers.locks name; kinds = numbers.kinds ++ kind ∷ [] } ≡ with_lock numbers name kind
with_lock-new numbers name kind e = by (is_known numbers.locks name) refl
  where
    by : (b : Bool) → is_known numbers.locks name ≡ b → record numbers { locks = with_name numbers.locks name; kinds = numbers.kinds ++ kind ∷ [] } ≡ with_lock numbers name kind
    by true known = absurd (omega (arith, known-below numbers.locks name known))
    by false new = rw new refl

pub with_lock-known : (numbers : Numbers) (name : Text) (kind : LockKind) → ¬ (place_of numbers.locks name ≡ length numbers.locks)
    → record numbers { locks = with_name numbers.locks name } ≡ with_lock numbers name kind
with_lock-known numbers name kind ne = by (is_known numbers.locks name) refl
  where
    by : (b : Bool) → is_known numbers.locks name ≡ b → record numbers { locks = with_name numbers.locks name } ≡ with_lock numbers name kind
    by true known = rw known refl
    by false new = absurd (ne (new-at-end numbers.locks name new))
