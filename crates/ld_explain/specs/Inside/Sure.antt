-- Keys without those that stand for several locks. No public clause speaks of these.
use Rattle.std.specs.Prelude.{◌<◌, ◌≡◌, List, if◌then◌else◌, length, slice_index, ℕ}
use Rattle.ld_explain.specs.Names.{Name, is_rest, name_at}

-- a number that no key has
abbrev pub no_key : ℕ
no_key = 65535

-- each of the first keys by its own number, and one that stands for several locks by none
pub record AreSureNumbers (names : List Name) (count : ℕ) (numbers : List ℕ) : Type 0 where
  pub len : length numbers ≡ count
  pub each : (key : ℕ) → key < count → slice_index numbers key ≡ (if is_rest (name_at names key).0 then no_key else key)
