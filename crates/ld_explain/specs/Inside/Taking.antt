-- What is taken in of the facts that are asked about. Only private clauses cite these words.
use Rattle.std.specs.Prelude.{◌≡◌, Bool, List, Some, length, slice_get, true, ℕ}
use Rattle.ld_explain.specs.Names.{Dependency, Fact, FactParts, HasFact, Marked}
use Rattle.ld_explain.specs.Notes.{GuardParts}
use Rattle.ld_explain.specs.Origins.{OriginParts, View}
use Rattle.ld_explain.specs.Inside.Firsts.{AreFirsts}
use Rattle.ld_explain.specs.Inside.Guarding.{Among, AreGuards, AsksOrder}
use Rattle.ld_explain.specs.declared.origins.Origin.{Origin}

-- the key that a dependency leads to, or that has the mark
abbrev pub last_key : Fact → ℕ
last_key (Dependency from to kind) = to
last_key (Marked key mark) = key

-- of each fact the last key is marked
abbrev pub AreEnds : FactParts → List Bool → Type 0
AreEnds facts ends = (length ends ≡ facts.keys) × ((x : Fact) → HasFact facts x → slice_get ends (last_key x) ≡ Some true)

-- of what is asked about, the first of these occurrences are kept, and of its dependencies what guards all of them
pub record AreTakenIn (view : View) (asked : FactParts) (Seen : Fact → Origin → Type 0) (origins : OriginParts) (guards : GuardParts) : Type 0 where
  pub firsts : AreFirsts (Among (HasFact asked) Seen) origins
  pub guarded : AreGuards view (Among (AsksOrder asked) Seen) guards
