-- Keys that dependencies of findings lead from or to.
use Rattle.std.specs.Prelude.{◌<◌, ◌↔◌, ◌≡◌, Any, Bool, IsTrue, List, false, length, slice_index, slice_index_or, ℕ}
use Rattle.ld_text.specs.Names.{Fact, arrow, kinds}
use Rattle.ld_text.specs.Picture.{AreJoined, IsFoundArrow}

-- a dependency that is part of a finding leads from the one key to the other
abbrev pub Leads : (Fact → Type 0) → (from to : ℕ) → Type 0
Leads Has from to = Any (λ kind. IsFoundArrow Has (arrow from to kind)) kinds

-- each key is marked exactly if such a dependency leads from it to one of the list, or back
pub record AreJoinedKeys (Has : Fact → Type 0) (keys : List ℕ) (marks : List Bool) : Type 0 where
  pub len : length marks ≡ length keys
  pub each : (n : ℕ) → n < length keys → IsTrue (slice_index_or marks n false) ↔ Any (AreJoined Has (slice_index keys n)) keys
