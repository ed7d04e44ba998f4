-- The names of lock keys and their places in a table.
use Rattle.std.specs.Prelude.{◌≡◌, ℕ, ◌≤◌, ◌==◌, ◌&&◌, ◌++◌, ◌∷◌, Bool, true, not, List, [], length, nat_le, if◌then◌else◌}
use Rattle.std.specs.List.{IsDistinct, list_all, list_any, position_or_len}
use Rattle.std.specs.Str.{bytes_eq}
use Rattle.ld_trace.specs.declared.key_id.TheConstants.{MAX_KEYS}
use Rattle.ld_trace.specs.declared.key_table.TheConstants.{MAX_SUB}
use Rattle.ld_trace.specs.declared.stored_name.TheConstants.{MAX_NAME}

-- a key's name: the bytes of its lock class's name, and its subclass ["Lock-class"; "Exception: Nested data
-- dependencies leading to nested locking"]
abbrev pub Name : Type 0
Name = List ℕ × ℕ

-- whether each of these bytes is 0x21 to 0x7E: a visible character of ASCII
abbrev pub are_visible : List ℕ → Bool
are_visible bytes = list_all (λ byte. nat_le 0x21 byte && nat_le byte 0x7E) bytes

-- whether these bytes name a lock class: 1 to 64 of them, all visible [this project's own]
abbrev pub is_class_name : List ℕ → Bool
is_class_name bytes = nat_le 1 (length bytes) && nat_le (length bytes) MAX_NAME && are_visible bytes

-- whether a class's name and a subclass name a key: subclasses are 0 to 7
abbrev pub is_name : Name → Bool
is_name name = is_class_name name.0 && nat_le name.1 MAX_SUB

-- whether two names are the same
abbrev pub is_same : Name → Name → Bool
is_same a b = bytes_eq a.0 b.0 && (a.1 == b.1)

-- whether the name is among these
abbrev pub is_known : List Name → Name → Bool
is_known names name = list_any (is_same name) names

-- the name's place among these, or the place at their end for a new one
abbrev pub place_of : List Name → Name → ℕ
place_of names name = position_or_len (is_same name) names

-- the names with this one among them: a new one goes last
abbrev pub with_name : List Name → Name → List Name
with_name names name = if is_known names name then names else names ++ name ∷ []

-- whether the name would be one more than there is room for
abbrev pub is_one_too_many : ℕ → List Name → Name → Bool
is_one_too_many room names name = not (is_known names name) && nat_le room (length names)

-- a table of names: how many it takes, and those that it has, each at the place of its key's number
pub record Table : Type 0 where
  pub room : ℕ
  pub names : List Name

-- the invariant of a table: room for at most 8,192 names, and no more names than it has room for, each a valid name,
-- none of them twice
pub record AreNumbered (table : Table) : Type 0 where
  pub most : table.room ≤ MAX_KEYS
  pub few : length table.names ≤ table.room
  pub named : list_all is_name table.names ≡ true
  pub once : IsDistinct is_same table.names
