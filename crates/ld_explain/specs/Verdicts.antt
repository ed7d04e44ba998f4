-- Between what the findings between types were seen: single locks, classes, or types alone [this project's own].
use Rattle.std.specs.Prelude.{◌==◌, ◌||◌, ◌≡◌, ◌⊎◌, All, Bool, Contains, IsFalse, IsSomeAnd, IsTrue, List, Option, count_by, false, if◌then◌else◌, is_some, map, not, slice_index, ℕ}
use Rattle.ld_explain.specs.Names.{AreSame, Arrow, Bor, DependenciesOf, Event, Fact, FactParts, HasFact, Holds, IsDouble, IsInversion, IsShortestFrom, OnCircle, arrow_by, list_all, list_any}
use Rattle.ld_explain.specs.Findings.{AreFindings, IsCircle, IsTheDouble, IsTheInversion, members_of}
use Rattle.ld_explain.specs.Origins.{View, ViewHas, plain}
use Rattle.ld_explain.specs.Naming.{view_of}
use Rattle.ld_explain.specs.declared.naming.Naming.TheVariants.{Renamed}
use Rattle.ld_explain.specs.declared.finding.Finding.{Finding}
use Rattle.ld_explain.specs.declared.finding.Finding.TheVariants.{Circle, Double, Inversion}
use Rattle.ld_explain.specs.declared.levels.Levels.{Levels}
use Rattle.ld_explain.specs.declared.verdict.Between.{Between}
use Rattle.ld_explain.specs.declared.verdict.Between.TheVariants as between
use Rattle.ld_explain.specs.declared.verdict.Verdict.{Verdict}

-- ---- levels
-- what is settled at a level: whether anything is, the facts, and what single locks are called there
pub record Level : Type 1 where
  pub is_settled : Bool
  pub Has : Fact → Type 0
  pub name : ℕ → ℕ

-- the levels of some traces: single locks without the names that stand for several of them, all single locks, classes; and the type
-- of a lock
pub record AllLevels : Type 1 where
  pub sure : Level
  pub locks : Level
  pub classes : Level
  pub type : ℕ → ℕ

-- a level of these facts, where it is settled
abbrev pub level_by : Option (Bor FactParts) → (name : ℕ → ℕ) → Level
level_by settled name = record { is_settled = is_some settled; Has = λ x. IsSomeAnd settled (λ facts. HasFact facts.now x); name = name }

-- those of settled facts
abbrev pub levels_of : Levels → AllLevels
levels_of levels = record {
  sure = level_by levels.sure (λ lock. lock);
  locks = level_by levels.locks (λ lock. lock);
  classes = level_by levels.classes (slice_index levels.class_of.now);
  type = slice_index levels.type_of.now;
}

-- ---- what is seen at a level
-- one of the locks' dependencies, one of the locks or two of them make such a finding at this level, and are by their types what the
-- finding is of
abbrev pub IsSeenAt : (locks : List ℕ) → (Locks : Fact → Type 0) → (type : ℕ → ℕ) → Level → Finding → Type 0
IsSeenAt locks Locks type level (Circle orders gates only) =
    (e : Arrow) × DependenciesOf Locks e × OnCircle level.Has (arrow_by level.name e) × Contains (members_of orders.items) (arrow_by type e)
IsSeenAt locks Locks type level (Double irq key used enabled) =
    (k : ℕ) × Contains locks k × IsDouble level.Has irq (level.name k) × (type k ≡ key)
IsSeenAt locks Locks type level (Inversion irq a b orders used enabled gates) =
    (k l : ℕ) × Contains locks k × Contains locks l × IsInversion level.Has irq (level.name k) (level.name l) × (type k ≡ a) × (type l ≡ b)

-- the level is settled, and the finding isn't seen there
abbrev pub IsUnseenAt : (locks : List ℕ) → (Locks : Fact → Type 0) → (type : ℕ → ℕ) → Level → Finding → Type 0
IsUnseenAt locks Locks type level finding = IsTrue level.is_settled × ¬ IsSeenAt locks Locks type level finding

-- the nested finding is one of these facts between single locks, of what is by its types what the finding is of: a shortest circle of
-- those that begin with the dependency, the double or the inversion
abbrev pub IsNestedIn : (Fact → Type 0) → View → (locks : List ℕ) → (type : ℕ → ℕ) → (finding nested : Finding) → Type 0
IsNestedIn Has view locks type (Circle orders gates only) nested =
    (e : Arrow) × Contains (members_of orders.items) (arrow_by type e) × (walk : List Arrow) × IsShortestFrom Has e walk
    × IsCircle view locks walk nested
IsNestedIn Has view locks type (Double irq key used enabled) nested =
    (k : ℕ) × Contains locks k × (type k ≡ key) × IsTheDouble Has view (irq, k) nested
IsNestedIn Has view locks type (Inversion irq a b orders used enabled gates) nested =
    (k l : ℕ) × Contains locks k × Contains locks l × (type k ≡ a) × (type l ≡ b) × IsTheInversion Has view locks (irq, (k, l)) nested

-- ---- verdicts
-- the level that would be asked next isn't settled: the finding is unseen at each before it
abbrev pub IsBetweenUnknown : AllLevels → (locks : List ℕ) → Finding → Type 0
IsBetweenUnknown levels locks finding = IsFalse levels.sure.is_settled
    ⊎ (IsUnseenAt locks levels.sure.Has levels.type levels.sure finding × IsFalse levels.locks.is_settled)
    ⊎ (IsUnseenAt locks levels.sure.Has levels.type levels.sure finding × IsUnseenAt locks levels.locks.Has levels.type levels.locks finding
    × IsFalse levels.classes.is_settled)

-- the finding was seen so, with a finding between single locks where it was seen between these: the levels are asked in turn, as far as
-- they are settled
abbrev pub IsBetween : AllLevels → View → (locks : List ℕ) → Finding → Between → Type 0
IsBetween levels view locks finding (between.Locks nested) = IsNestedIn levels.sure.Has view locks levels.type finding nested
IsBetween levels view locks finding (between.Perhaps nested) =
    IsUnseenAt locks levels.sure.Has levels.type levels.sure finding × IsNestedIn levels.locks.Has view locks levels.type finding nested
IsBetween levels view locks finding between.Classes =
    IsUnseenAt locks levels.sure.Has levels.type levels.sure finding × IsUnseenAt locks levels.locks.Has levels.type levels.locks finding
    × IsSeenAt locks levels.locks.Has levels.type levels.classes finding
IsBetween levels view locks finding between.Types =
    IsUnseenAt locks levels.sure.Has levels.type levels.sure finding × IsUnseenAt locks levels.locks.Has levels.type levels.locks finding
    × IsUnseenAt locks levels.locks.Has levels.type levels.classes finding
IsBetween levels view locks finding between.Unknown = IsBetweenUnknown levels locks finding

-- these are the findings between types in their order, each with what it was seen between
pub record AreVerdicts (Types : Fact → Type 0) (types : View) (type_keys : List ℕ) (levels : AllLevels) (view : View) (locks : List ℕ)
    (verdicts : List Verdict) : Type 0 where
  pub findings : AreFindings Types types type_keys (map (λ v. v.finding) verdicts)
  pub between : All (λ v. IsBetween levels view locks v.finding v.between) verdicts

-- ---- their order
-- each member of the walk leads from a key to itself: one type is nested in itself, and nothing else
abbrev pub is_nesting : Finding → Bool
is_nesting (Circle orders gates only) = list_all (λ o. o.dependency.start == o.dependency.end) orders.items
is_nesting _ = false

-- what was seen between single locks comes first, and one type that is nested in itself, by locks of several classes, last
abbrev pub rank_by : (is_nesting : Bool) → Between → ℕ
rank_by is_nesting (between.Locks nested) = 0
rank_by is_nesting (between.Perhaps nested) = 1
rank_by is_nesting between.Unknown = 2
rank_by is_nesting between.Classes = 3
rank_by is_nesting between.Types = if is_nesting then 5 else 4

abbrev pub rank : Verdict → ℕ
rank v = rank_by (is_nesting v.finding) v.between

-- how many of the verdicts have this rank
abbrev pub count_ranked : List Verdict → (r : ℕ) → ℕ
count_ranked verdicts r = count_by (λ v. rank v == r) verdicts

-- whether the verdict counts as a finding: all do but the last, or only what was seen between single locks or isn't known
abbrev pub counts : (confirmed_only : Bool) → Verdict → Bool
counts confirmed_only v = if confirmed_only then (rank v == 0 || rank v == 2) else not (rank v == 5)

-- whether one of the verdicts does
abbrev pub has_finding : (confirmed_only : Bool) → List Verdict → Bool
has_finding confirmed_only verdicts = list_any (counts confirmed_only) verdicts

-- ---- nothing is lost
-- the finding is a circle with this member
abbrev pub HasMember : Finding → Arrow → Type 0
HasMember (Circle orders gates only) d = Contains (members_of orders.items) d
HasMember _ d = ⊥

-- each dependency on a circle of single locks, none of which stands for several, is by its types a member of a finding that was seen
-- between single locks
abbrev pub CirclesOfLocksAreSeen : Type 0
CirclesOfLocksAreSeen = (levels : Levels) (traces : List (List Event)) (type_keys locks : List ℕ) (verdicts : List Verdict) →
    AreSame (HasFact levels.types.now) (ViewHas (view_of (Renamed levels.type_of) traces)) →
    Holds (ViewHas (plain traces)) (levels_of levels).sure.Has →
    AreVerdicts (HasFact levels.types.now) (view_of (Renamed levels.type_of) traces) type_keys (levels_of levels) (plain traces) locks
    verdicts →
    (e : Arrow) → OnCircle (levels_of levels).sure.Has e →
    Contains type_keys ((levels_of levels).type e.start) → Contains type_keys ((levels_of levels).type e.end) →
    (v : Verdict) × Contains verdicts v × HasMember v.finding (arrow_by (levels_of levels).type e)
    × ((nested : Finding) × (v.between ≡ between.Locks nested))
