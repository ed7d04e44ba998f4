-- The order of keys in a report. This project's own.
use Rattle.std.specs.Prelude.{IsPermutation, IsSorted, List, length, ℕ}
use Rattle.ld_text.specs.Names.{Name, Ordering, name_at, nat_cmp, numbers_below, ordering_then, slice_cmp}

-- names are compared by their bytes, and then by their subclass
abbrev pub name_cmp : Name → Name → Ordering
name_cmp a b = ordering_then (slice_cmp nat_cmp a.0 b.0) (nat_cmp a.1 b.1)

-- all keys of the table, in the order of their names
pub record IsKeyOrder (names : List Name) (keys : List ℕ) : Type 0 where
  pub all : IsPermutation (numbers_below (length names)) keys
  pub sorted : IsSorted (λ a b. name_cmp (name_at names a) (name_at names b)) keys
