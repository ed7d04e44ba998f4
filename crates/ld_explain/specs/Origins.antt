-- Where the facts of many traces come from: their first occurrences [this project's own].
use Rattle.std.specs.Prelude.{◌<◌, ◌↔◌, ◌≡◌, ◌≤◌, ◌⊎◌, IfSome, IsNone, List, None, Option, Some, nat_eq, slice_get, ℕ}
use Rattle.ld_explain.specs.Names.{AreSame, Dependency, Event, Fact, FactBelow, FactParts, HasFact, IsDependency, IsMarkedOpening, IsMarkedTaking, Marked, TracesHave, TracesHaveBy, fact_by, fact_number, lookup}
use Rattle.ld_explain.specs.declared.origins.Origin.{Origin}

-- ---- occurrences
-- the event at this place of the trace gives the fact: by the lock that was taken at the position `held` and is held there,
-- or by the lock that the event itself takes
abbrev pub Gives : List Event → Fact → (place : ℕ) → (held : Option ℕ) → Type 0
Gives t (Dependency from to kind) place (Some held) = (d : IsDependency t from to kind) × (d.i ≡ held) × (d.j ≡ place)
Gives t (Dependency from to kind) place None = ⊥
Gives t (Marked key mark) place (Some held) = (m : IsMarkedOpening t key mark) × (m.i ≡ held) × (m.j ≡ place)
Gives t (Marked key mark) place None = (m : IsMarkedTaking t key mark) × (m.j ≡ place)

-- traces, and how keys are renamed: facts are about the new names of the keys in the traces
pub record View : Type 0 where
  pub traces : List (List Event)
  pub rename : ℕ → ℕ

-- traces whose keys keep their names
abbrev pub plain : List (List Event) → View
plain traces = record { traces = traces; rename = λ key. key }

-- the traces have the fact, by its keys' new names
abbrev pub ViewHas : View → Fact → Type 0
ViewHas view x = TracesHaveBy view.rename view.traces x

-- by the keys' own names they have their facts
abbrev pub OwnNamesChangeNothing : Type 0
OwnNamesChangeNothing = (traces : List (List Event)) → AreSame (ViewHas (plain traces)) (TracesHave traces)

-- one of the traces gives the fact there, by its keys' new names
pub record Occurs (view : View) (x : Fact) (at : Origin) : Type 0 where
  pub t : List Event
  pub is_trace : slice_get view.traces at.trace ≡ Some t
  pub fact : Fact
  pub gives : Gives t fact at.place at.held
  pub named : fact_by view.rename fact ≡ x

-- ---- the first one
-- one held lock is as new as another, where there are two
abbrev pub AsNew : (held other : Option ℕ) → Type 0
AsNew held other = IfSome held (λ i. IfSome other (λ k. k ≤ i))

-- the place comes no later than the other: in an earlier trace, or earlier in the same one, or at the same place by a lock
-- that is as new
abbrev pub NoLater : (at other : Origin) → Type 0
NoLater at other =
    (at.trace < other.trace)
    ⊎ ((at.trace ≡ other.trace) × ((at.place < other.place) ⊎ ((at.place ≡ other.place) × AsNew at.held other.held)))

-- the fact's first occurrence in the traces
pub record IsFirst (view : View) (x : Fact) (origin : Origin) : Type 0 where
  pub here : Occurs view x origin
  pub first : (other : Origin) → Occurs view x other → NoLater origin other

-- the fact's first occurrence, or None exactly where no trace has the fact
abbrev pub IsOriginOf : View → Fact → Option Origin → Type 0
IsOriginOf view x origin = (IsNone origin ↔ ¬ ViewHas view x) × IfSome origin (IsFirst view x)

-- ---- what is kept of them
-- origins of facts about the keys below `keys`, each beside the fact's number
pub record OriginParts : Type 0 where
  pub keys : ℕ
  pub entries : List (ℕ × Origin)

-- the fact has this origin among them
abbrev pub HasOrigin : OriginParts → Fact → Origin → Type 0
HasOrigin parts x origin =
    FactBelow parts.keys x × (lookup (λ n. nat_eq (fact_number parts.keys x) n) parts.entries ≡ Some origin)

-- they are the first occurrences of those of the traces' facts that are asked about
pub record AreOriginsOf (view : View) (asked : FactParts) (parts : OriginParts) : Type 0 where
  pub first : (x : Fact) (origin : Origin) → HasOrigin parts x origin → IsFirst view x origin
  pub all : (x : Fact) → HasFact asked x → ViewHas view x → (origin : Origin) × HasOrigin parts x origin
