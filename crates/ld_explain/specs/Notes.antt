-- What speaks against a finding: locks that are always held round its dependencies, and a trace that alone has them
-- [this project's own; the two conditions are those of Havelund's GoodLock].
use Rattle.std.specs.Prelude.{[], ◌<◌, ◌↔◌, ◌∷◌, ◌≡◌, Contains, IsTrue, List, Some, false, nat_eq, slice_get, ℕ}
use Rattle.ld_explain.specs.Names.{Arrow, DependenciesOf, Dependency, Event, Fact, FactBelow, FactParts, HasFact, IsDependency, arrow_by, event, fact_number, is_held, is_read, key_at, lookup, mode_taken}
use Rattle.ld_explain.specs.Origins.{View, ViewHas}
use Rattle.ld_explain.specs.declared.guard.Guard.{Guard}

-- ---- gates
-- a lock of this key is held at j, in a mode that keeps all others out, and was taken before the lock that was taken at i
pub record Guarded (rename : ℕ → ℕ) (t : List Event) (gate i j : ℕ) : Type 0 where
  pub k : ℕ
  pub older : k < i
  pub is_held : IsTrue (is_held t k j)
  pub key_is : gate ≡ rename (key_at t k)
  pub excludes : is_read (mode_taken (event t k)) ≡ false

-- it is, wherever one of the traces has the dependency
abbrev pub IsGate : View → Arrow → (gate : ℕ) → Type 0
IsGate view d gate = (trace : ℕ) (t : List Event) → slice_get view.traces trace ≡ Some t → (e : Arrow) → arrow_by view.rename e ≡ d →
    (o : IsDependency t e.start e.end e.kind) → Guarded view.rename t gate o.i o.j

-- ---- one trace
-- no trace but this one has one of these dependencies
abbrev pub IsAloneIn : View → List Arrow → (trace : ℕ) → Type 0
IsAloneIn view walk trace = (d : Arrow) → Contains walk d → (other : ℕ) (t : List Event) → slice_get view.traces other ≡ Some t →
    (e : Arrow) → arrow_by view.rename e ≡ d → IsDependency t e.start e.end e.kind → other ≡ trace

-- ---- what is kept of them
-- guards of facts about the keys below `keys`, each beside the fact's number
pub record GuardParts : Type 0 where
  pub keys : ℕ
  pub entries : List (ℕ × Guard)

-- the fact has this guard among them
abbrev pub HasGuard : GuardParts → Fact → Guard → Type 0
HasGuard parts x g =
    FactBelow parts.keys x × (lookup (λ n. nat_eq (fact_number parts.keys x) n) parts.entries ≡ Some g)

-- they are what speaks against those of the traces' dependencies that are asked about
pub record AreGuardsOf (view : View) (asked : FactParts) (parts : GuardParts) : Type 0 where
  pub all : (d : Arrow) → DependenciesOf (HasFact asked) d → DependenciesOf (ViewHas view) d →
      (g : Guard) × HasGuard parts (Dependency d.start d.end d.kind) g
  pub gates : (d : Arrow) → DependenciesOf (HasFact asked) d → (g : Guard) → HasGuard parts (Dependency d.start d.end d.kind) g →
      (key : ℕ) → Contains g.gates.items key ↔ IsGate view d key
  pub only : (d : Arrow) → DependenciesOf (HasFact asked) d → (g : Guard) → HasGuard parts (Dependency d.start d.end d.kind) g →
      (trace : ℕ) → (g.only ≡ Some trace) ↔ IsAloneIn view (d ∷ []) trace
