-- What is settled about traces at each level of what their locks are called [this project's own].
use Rattle.std.specs.Prelude.{[], ◌<◌, ◌≡◌, ◌⊎◌, Contains, IfSome, IsFalse, IsNone, List, Option, length, map, option_map, slice_index, ℕ}
use Rattle.ld_explain.specs.Names.{AreSame, Arrow, Classes, Dependency, Event, Fact, FactParts, GRAPH_KEYS, HasFact, IsClean, Level, Marked, Name, OnCircle, TracesHave, TracesHaveBy, Types, arrow_by, is_rest, name_at, name_by, numbers_at, with_all}
use Rattle.ld_explain.specs.Naming.{view_of}
use Rattle.ld_explain.specs.Origins.{plain}
use Rattle.ld_explain.specs.Verdicts.{AreVerdicts, HasMember, levels_of}
use Rattle.ld_explain.specs.declared.finding.Finding.{Finding}
use Rattle.ld_explain.specs.declared.levels.Levels.{Levels}
use Rattle.ld_explain.specs.declared.naming.Naming.TheVariants.{Renamed}
use Rattle.ld_explain.specs.declared.verdict.Between.TheVariants as between
use Rattle.ld_explain.specs.declared.verdict.Verdict.{Verdict}

-- the names at a level, each once, in the order in which they come first
abbrev pub names_at : Level → List Name → List Name
names_at level names = with_all [] (map (name_by level) names)

-- the fact is about single locks: no key of it stands for several
abbrev pub IsSure : List Name → Fact → Type 0
IsSure names (Dependency from to kind) = IsFalse (is_rest (name_at names from).0) × IsFalse (is_rest (name_at names to).0)
IsSure names (Marked key mark) = IsFalse (is_rest (name_at names key).0)

-- what is settled between types; the type of each lock; and the types' names
pub record TypeParts : Type 0 where
  pub types : FactParts
  pub type_of : List ℕ
  pub type_names : List Name

-- they are those of these traces, whose keys have these names
pub record AreTypes (traces : List (List Event)) (names : List Name) (parts : TypeParts) : Type 0 where
  pub type_names_are : parts.type_names ≡ names_at Types names
  pub type_of_is : parts.type_of ≡ numbers_at Types names parts.type_names
  pub types_are : AreSame (HasFact parts.types) (TracesHaveBy (slice_index parts.type_of) traces)

-- facts of single locks, of single locks for sure, and of classes, each if they are settled; those of types; the class and the type of
-- each lock; and the types' names
pub record LevelParts : Type 0 where
  pub locks : Option FactParts
  pub sure : Option FactParts
  pub classes : Option FactParts
  pub types : FactParts
  pub class_of : List ℕ
  pub type_of : List ℕ
  pub type_names : List Name

-- a level isn't settled
abbrev pub IsOpen : LevelParts → Type 0
IsOpen levels = IsNone levels.locks ⊎ IsNone levels.sure ⊎ IsNone levels.classes

-- they are those of these traces, whose keys have these names. A level is open only if nothing is asked of it, or where there are more
-- keys than one graph takes
pub record AreLevels (traces : List (List Event)) (names : List Name) (levels : LevelParts) : Type 0 where
  pub type_names_are : levels.type_names ≡ names_at Types names
  pub type_of_is : levels.type_of ≡ numbers_at Types names levels.type_names
  pub class_of_is : levels.class_of ≡ numbers_at Classes names (names_at Classes names)
  pub types_are : AreSame (HasFact levels.types) (TracesHaveBy (slice_index levels.type_of) traces)
  pub classes_are : IfSome levels.classes (λ facts. AreSame (HasFact facts) (TracesHaveBy (slice_index levels.class_of) traces))
  pub locks_are : IfSome levels.locks (λ facts. AreSame (HasFact facts) (TracesHave traces))
  pub sure_are : IfSome levels.sure (λ facts. AreSame (HasFact facts) (λ x. TracesHave traces x × IsSure names x))
  pub left_open : IsOpen levels → IsClean (HasFact levels.types) ⊎ (GRAPH_KEYS < length names)

-- these borrow them
pub record Borrows (levels : Levels) (parts : LevelParts) : Type 0 where
  pub locks : option_map (λ facts. facts.now) levels.locks ≡ parts.locks
  pub sure : option_map (λ facts. facts.now) levels.sure ≡ parts.sure
  pub classes : option_map (λ facts. facts.now) levels.classes ≡ parts.classes
  pub types : levels.types.now ≡ parts.types
  pub class_of : levels.class_of.now ≡ parts.class_of
  pub type_of : levels.type_of.now ≡ parts.type_of

-- these are the findings between the types of the traces' locks in their order, each with what it was seen between
pub record AreVerdictsAt (traces : List (List Event)) (parts : LevelParts) (type_keys locks : List ℕ) (verdicts : List Verdict) : Type 0 where
  pub levels : Levels
  pub levels_are : Borrows levels parts
  pub verdicts_are : AreVerdicts (HasFact levels.types.now) (view_of (Renamed levels.type_of) traces) type_keys (levels_of levels)
      (plain traces) locks verdicts

-- ---- nothing is lost
-- the verdict is of a circle with this member that was seen between single locks, or, where there are more names than one graph takes, of
-- one of which it isn't known between what
abbrev pub TellsCircle : List Name → Arrow → Verdict → Type 0
TellsCircle names d v = HasMember v.finding d
    × (((nested : Finding) × (v.between ≡ between.Locks nested)) ⊎ ((v.between ≡ between.Unknown) × (GRAPH_KEYS < length names)))

-- each dependency on a circle of the traces' single locks, none of which stands for several, is by its types a member of a circle that
-- one of the verdicts tells, if its types are among the keys
abbrev pub NoCircleIsLost : List (List Event) → List Name → (type : ℕ → ℕ) → (type_keys : List ℕ) → List Verdict → Type 0
NoCircleIsLost traces names type type_keys verdicts = (e : Arrow) → OnCircle (λ x. TracesHave traces x × IsSure names x) e →
    Contains type_keys (type e.start) → Contains type_keys (type e.end) →
    (v : Verdict) × Contains verdicts v × TellsCircle names (arrow_by type e) v

-- so it is with the verdicts of any traces
abbrev pub NoCirclesAreLost : Type 0
NoCirclesAreLost = (traces : List (List Event)) (names : List Name) (parts : LevelParts) (type_keys locks : List ℕ) (verdicts : List Verdict) →
    AreLevels traces names parts → AreVerdictsAt traces parts type_keys locks verdicts →
    NoCircleIsLost traces names (slice_index parts.type_of) type_keys verdicts
