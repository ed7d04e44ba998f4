-- The names of tasks and locks, and their places in the order of their first appearance.
use Rattle.std.specs.Prelude.{ℕ, ◌&&◌, ◌++◌, ◌∷◌, Bool, List, [], length, nat_le, not, if◌then◌else◌}
use Rattle.std.specs.List.{list_all, list_any, position_or_len}
use Rattle.std.specs.Str.{bytes_eq}
use Rattle.ld_schedule.specs.declared.limits.TheConstants.{MAX_NAME, MAX_RECORDS}

-- a name: its bytes
abbrev pub Text : Type 0
Text = List ℕ

-- whether each of these bytes is 0x21 to 0x7E: a visible character of ASCII
abbrev pub are_visible : Text → Bool
are_visible bytes = list_all (λ byte. nat_le 0x21 byte && nat_le byte 0x7E) bytes

-- whether these bytes are a name: 1 to 64 of them, all visible
abbrev pub is_name : Text → Bool
is_name text = nat_le 1 (length text) && nat_le (length text) MAX_NAME && are_visible text

-- whether the name is among these
abbrev pub is_known : List Text → Text → Bool
is_known names name = list_any (bytes_eq name) names

-- the name's place among these, or the place at their end for a new one
abbrev pub place_of : List Text → Text → ℕ
place_of names name = position_or_len (bytes_eq name) names

-- the names with this one among them: a new one goes last
abbrev pub with_name : List Text → Text → List Text
with_name names name = if is_known names name then names else names ++ name ∷ []

-- whether the name would be one more than a history may have
abbrev pub is_one_too_many : List Text → Text → Bool
is_one_too_many names name = not (is_known names name) && nat_le MAX_RECORDS (length names)
