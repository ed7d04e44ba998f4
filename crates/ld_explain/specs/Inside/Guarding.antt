-- What guards the occurrences that were seen so far. Only private clauses cite these words.
use Rattle.std.specs.Prelude.{◌<◌, ◌↔◌, ◌≡◌, ◌⊎◌, Bool, Contains, List, None, Option, Some, if◌then◌else◌, nat_eq, slice_get, ℕ}
use Rattle.ld_explain.specs.Names.{ChainParts, Dependency, Event, Fact, FactParts, HasFact, Lock, Marked, is_read, list_any}
use Rattle.ld_explain.specs.Notes.{GuardParts, Guarded, HasGuard}
use Rattle.ld_explain.specs.Origins.{View}
use Rattle.ld_explain.specs.declared.guard.Guard.{Guard}
use Rattle.ld_explain.specs.declared.origins.Origin.{Origin}

-- the key of a lock by its new name, if there is one and it keeps all others out
abbrev pub gate_in : (ℕ → ℕ) → Option Lock → Option ℕ
gate_in rename None = None
gate_in rename (Some lock) = if is_read lock.mode then None else Some (rename lock.key)

-- the key is that of such a lock in the chain, among this number of the oldest
abbrev pub IsGateBefore : (ℕ → ℕ) → ChainParts → (held key : ℕ) → Type 0
IsGateBefore rename c held key = (m : ℕ) × (m < held) × (gate_in rename (slice_get c.held_locks m) ≡ Some key)

-- the number is one of the list
abbrev pub is_among : List ℕ → ℕ → Bool
is_among xs x = list_any (λ y. nat_eq y x) xs

-- a lock of the key guards this occurrence
pub record GuardsAt (view : View) (key : ℕ) (at : Origin) : Type 0 where
  pub t : List Event
  pub i : ℕ
  pub is_trace : slice_get view.traces at.trace ≡ Some t
  pub held_is : at.held ≡ Some i
  pub guarded : Guarded view.rename t key i at.place

-- the occurrences of these facts alone
abbrev pub Among : (Fact → Type 0) → (Fact → Origin → Type 0) → Fact → Origin → Type 0
Among In Seen x o = In x × Seen x o

-- the dependencies that are asked about
abbrev pub AsksOrder : FactParts → Fact → Type 0
AsksOrder asked (Dependency from to kind) = HasFact asked (Dependency from to kind)
AsksOrder asked (Marked key mark) = ⊥

-- the fact has a guard
abbrev pub IsKept : GuardParts → Fact → Type 0
IsKept parts x = (g : Guard) × HasGuard parts x g

-- the guards say what guards all of these occurrences, and in which trace all of them lie
pub record AreGuards (view : View) (Seen : Fact → Origin → Type 0) (parts : GuardParts) : Type 0 where
  pub all : (x : Fact) (o : Origin) → Seen x o → IsKept parts x
  pub gates : (x : Fact) (g : Guard) → HasGuard parts x g → (key : ℕ) →
      Contains g.gates.items key ↔ ((o : Origin) → Seen x o → GuardsAt view key o)
  pub only : (x : Fact) (g : Guard) → HasGuard parts x g → (trace : ℕ) →
      (g.only ≡ Some trace) ↔ ((o : Origin) → Seen x o → o.trace ≡ trace)

-- the guard of one occurrence in this trace, with these gates
pub record IsFirstGuard (g : Guard) (trace : ℕ) (gates : List ℕ) : Type 0 where
  pub only : g.only ≡ Some trace
  pub gates_are : g.gates.items ≡ gates

-- the guard of one occurrence more
pub record Narrows (old new : Guard) (trace : ℕ) (gates : List ℕ) : Type 0 where
  pub only : (n : ℕ) → (new.only ≡ Some n) ↔ ((old.only ≡ Some n) × (trace ≡ n))
  pub gates_are : (key : ℕ) → Contains new.gates.items key ↔ (Contains old.gates.items key × Contains gates key)

-- the guard of a fact with one occurrence more, in this trace and with these gates
abbrev pub IsGuardWith : GuardParts → Fact → (trace : ℕ) → (gates : List ℕ) → Guard → Type 0
IsGuardWith parts x trace gates g =
    (¬ IsKept parts x × IsFirstGuard g trace gates) ⊎ ((was : Guard) × HasGuard parts x was × Narrows was g trace gates)

-- the fact has one occurrence more, in this trace and with these gates
pub record PutsGuard (old new : GuardParts) (fact : Fact) (trace : ℕ) (gates : List ℕ) : Type 0 where
  pub keys : new.keys ≡ old.keys
  pub there : (x : Fact) (g : Guard) → HasGuard new x g →
      (HasGuard old x g × ¬ (x ≡ fact)) ⊎ ((x ≡ fact) × IsGuardWith old fact trace gates g)
  pub keeps : (x : Fact) → IsKept old x → IsKept new x
  pub has : IsKept new fact
