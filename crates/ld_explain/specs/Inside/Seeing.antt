-- How it is asked at a level what makes a finding there. Only private clauses cite these words.
use Rattle.std.specs.Prelude.{[], ◌++◌, ◌∷◌, ◌≡◌, ◌⊎◌, All, Contains, List, slice_index, true, ℕ}
use Rattle.ld_explain.specs.Names.{Adds, Arrow, Dependency, Fact, FactParts, HasFact, Holds, Irq, IsDouble, IsInversion, Kind, OnCircle, arrow, arrow_by}
use Rattle.ld_explain.specs.Findings.{Are, members_of}
use Rattle.ld_explain.specs.Inside.Choosing.{IsAmong, IsChoiceFrom, IsDoubleChoice, IsInversionChoice, IsPart}
use Rattle.ld_explain.specs.Inside.Explaining.{Explains}
use Rattle.ld_explain.specs.Naming.{key_by}
use Rattle.ld_explain.specs.Verdicts.{AllLevels, IsBetweenUnknown, IsSeenAt, IsUnseenAt, Level, levels_of}
use Rattle.ld_explain.specs.Origins.{View}
use Rattle.ld_explain.specs.declared.asker.Asker.{Asker}
use Rattle.ld_explain.specs.declared.asker.Case.{Case}
use Rattle.ld_explain.specs.declared.asker.Case.TheVariants as case
use Rattle.ld_explain.specs.declared.choices.Choice.{Choice}
use Rattle.ld_explain.specs.declared.finding.Finding.{Finding}
use Rattle.ld_explain.specs.declared.finding.Finding.TheVariants.{Circle, Double, Inversion}
use Rattle.ld_explain.specs.declared.finding.Order.{Order}
use Rattle.ld_explain.specs.declared.levels.Levels.{Levels}
use Rattle.ld_explain.specs.declared.plan.Plan.{Plan}
use Rattle.ld_explain.specs.declared.questions.Questions.{Questions}
use Rattle.ld_explain.specs.declared.questions.Seen.{Seen}
use Rattle.ld_explain.specs.declared.questions.Seen.TheVariants as seen
use Rattle.ld_explain.specs.declared.verdict.Between.{Between}
use Rattle.ld_explain.specs.declared.verdict.Between.TheVariants as between
use Rattle.ld_explain.specs.declared.verdict.Verdict.{Verdict}

-- ---- what makes a finding
-- the level that is asked
abbrev pub level_of : Asker → Level
level_of asker = record { is_settled = true; Has = HasFact asker.settled.now; name = key_by asker.naming }

-- the lock is one of the type and a double at the level
abbrev pub IsLoneDouble : Asker → Irq → (key k : ℕ) → Type 0
IsLoneDouble asker irq key k =
    IsDouble (HasFact asker.settled.now) irq (key_by asker.naming k) × (slice_index asker.type_of.now k ≡ key)

-- two locks are of the types and an inversion at the level
abbrev pub IsLoneInversion : Asker → Irq → (a b k l : ℕ) → Type 0
IsLoneInversion asker irq a b k l =
    IsInversion (HasFact asker.settled.now) irq (key_by asker.naming k) (key_by asker.naming l)
    × (slice_index asker.type_of.now k ≡ a) × (slice_index asker.type_of.now l ≡ b)

-- the dependency is one between locks that is on a circle at the level and by its types a member of the walk
abbrev pub IsLoneMember : Asker → List Order → (from to : ℕ) → Kind → Type 0
IsLoneMember asker walk from to kind = HasFact asker.locks.now (Dependency from to kind)
    × OnCircle (HasFact asker.settled.now) (arrow (key_by asker.naming from) (key_by asker.naming to) kind)
    × Contains (members_of walk) (arrow (slice_index asker.type_of.now from) (slice_index asker.type_of.now to) kind)

-- this makes the finding at the level
abbrev pub IsCaseAt : Asker → Finding → Case → Type 0
IsCaseAt asker (Circle orders gates only) (case.Circle e) = IsLoneMember asker orders.items e.start e.end e.kind
IsCaseAt asker (Double irq key used enabled) (case.Double state k) =
    (state ≡ irq) × Contains asker.keys.now k × IsLoneDouble asker irq key k
IsCaseAt asker (Inversion irq a b orders used enabled gates) (case.Inversion state locks) =
    (state ≡ irq) × Contains asker.keys.now locks.0 × Contains asker.keys.now locks.1 × IsLoneInversion asker irq a b locks.0 locks.1
IsCaseAt asker _ _ = ⊥

-- it makes one in the facts, and the choice is for that
abbrev pub Makes : (Fact → Type 0) → Case → Type 0
Makes Has (case.Circle e) = OnCircle Has e
Makes Has (case.Double irq k) = IsDouble Has irq k
Makes Has (case.Inversion irq locks) = IsInversion Has irq locks.0 locks.1

abbrev pub IsChoiceFor : (Fact → Type 0) → Case → Choice → Type 0
IsChoiceFor Has (case.Circle e) choice = IsChoiceFrom Has e choice
IsChoiceFor Has (case.Double irq k) choice = IsDoubleChoice Has (irq, k) choice
IsChoiceFor Has (case.Inversion irq locks) choice = IsInversionChoice Has (irq, locks) choice

-- ---- what was seen, before it is explained
-- single locks, by these facts
abbrev pub lock_level : FactParts → Level
lock_level facts = record { is_settled = true; Has = HasFact facts; name = λ lock. lock }

-- the level is settled, and what the questions ask of the first level's dependencies isn't seen there
abbrev pub IsUnseenBy : Questions → (locks level : Level) → Finding → Type 0
IsUnseenBy q locks level finding = IsUnseenAt q.keys.now locks.Has (slice_index q.levels.type_of.now) level finding

-- the choice is for a finding between single locks, of what is by its types what the finding is of
abbrev pub IsNestedChoice : (Fact → Type 0) → (locks : List ℕ) → (type : ℕ → ℕ) → Finding → Choice → Type 0
IsNestedChoice Has locks type (Circle orders gates only) choice =
    (e : Arrow) × Contains (members_of orders.items) (arrow_by type e) × IsChoiceFrom Has e choice
IsNestedChoice Has locks type (Double irq key used enabled) choice =
    (k : ℕ) × Contains locks k × (type k ≡ key) × IsDoubleChoice Has (irq, k) choice
IsNestedChoice Has locks type (Inversion irq a b orders used enabled gates) choice =
    (k l : ℕ) × Contains locks k × Contains locks l × (type k ≡ a) × (type l ≡ b) × IsInversionChoice Has (irq, (k, l)) choice

-- the finding was seen so
abbrev pub IsSeenAs : AllLevels → (locks : List ℕ) → Finding → Seen → Type 0
IsSeenAs levels locks finding (seen.Locks choice) = IsNestedChoice levels.sure.Has locks levels.type finding choice
IsSeenAs levels locks finding (seen.Perhaps choice) =
    IsUnseenAt locks levels.sure.Has levels.type levels.sure finding × IsNestedChoice levels.locks.Has locks levels.type finding choice
IsSeenAs levels locks finding seen.Unknown = IsBetweenUnknown levels locks finding
IsSeenAs levels locks finding seen.Classes =
    IsUnseenAt locks levels.sure.Has levels.type levels.sure finding × IsUnseenAt locks levels.locks.Has levels.type levels.locks finding
    × IsSeenAt locks levels.locks.Has levels.type levels.classes finding
IsSeenAs levels locks finding seen.Types =
    IsUnseenAt locks levels.sure.Has levels.type levels.sure finding × IsUnseenAt locks levels.locks.Has levels.type levels.locks finding
    × IsUnseenAt locks levels.locks.Has levels.type levels.classes finding

-- ---- what is asked about for it
-- what was seen has the fact
abbrev pub SeenHas : Seen → Fact → Type 0
SeenHas (seen.Locks choice) x = IsPart choice x
SeenHas (seen.Perhaps choice) x = IsPart choice x
SeenHas _ x = ⊥

-- its facts are among these
abbrev pub IsSeenAmong : FactParts → Seen → Type 0
IsSeenAmong facts (seen.Locks choice) = IsAmong facts choice
IsSeenAmong facts (seen.Perhaps choice) = IsAmong facts choice
IsSeenAmong facts _ = Unit {0}

-- it was added, and its facts are asked about too
pub record AddsSeen (old new : Plan) (s : Seen) : Type 0 where
  pub keys : new.asked.keys ≡ old.asked.keys
  pub list : new.list.items ≡ old.list.items ++ s ∷ []
  pub asks : Adds (HasFact old.asked) (HasFact new.asked) (SeenHas s)

-- the facts between single locks
abbrev pub HasBetween : Levels → Fact → Type 0
HasBetween levels x = (levels_of levels).sure.Has x ⊎ (levels_of levels).locks.Has x

-- what was seen of these findings, and what is asked about for it
pub record IsPlan (levels : Levels) (keys : ℕ) (locks : List ℕ) (findings : List Finding) (plan : Plan) : Type 0 where
  pub keys_are : plan.asked.keys ≡ keys
  pub has : Holds (HasBetween levels) (HasFact plan.asked)
  pub seen : Are (IsSeenAs (levels_of levels) locks) findings plan.list.items
  pub each : All (IsSeenAmong plan.asked) plan.list.items

-- it is explained so
abbrev pub ExplainsSeen : View → (locks : List ℕ) → Seen → Between → Type 0
ExplainsSeen view locks (seen.Locks choice) b = (nested : Finding) × (b ≡ between.Locks nested) × Explains view locks choice nested
ExplainsSeen view locks (seen.Perhaps choice) b = (nested : Finding) × (b ≡ between.Perhaps nested) × Explains view locks choice nested
ExplainsSeen view locks seen.Unknown b = b ≡ between.Unknown
ExplainsSeen view locks seen.Classes b = b ≡ between.Classes
ExplainsSeen view locks seen.Types b = b ≡ between.Types

-- the verdict says so
abbrev pub SaysSeen : View → (locks : List ℕ) → Seen → Verdict → Type 0
SaysSeen view locks s v = ExplainsSeen view locks s v.between
