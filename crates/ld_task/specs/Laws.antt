-- What holds of every trace: the laws that this crate proves of its definitions.
pub mod Locks
pub mod Positions
use Rattle.std.specs.Prelude.{◌≡◌, ◌≢◌, ◌↔◌, ℕ, suc, ◌<◌, ◌≤◌, true, List, [], ◌∷◌, ◌++◌, length, All, Any, Contains, Some, take}
use Rattle.std.specs.Option.{option_to_list}
use Rattle.ld_trace.specs.declared.event.Event.{Event}
use Rattle.ld_trace.specs.declared.event.Event.TheVariants.{TurnOn}
use Rattle.ld_trace.specs.declared.event.Irq.{Irq}
use Rattle.ld_trace.specs.Events.{KeysBelow}
use Rattle.ld_task.specs.declared.kind.Kind.{Kind}
use Rattle.ld_task.specs.declared.mark.Mark.{Mark}
use Rattle.ld_task.specs.Events.{event}
use Rattle.ld_task.specs.Flags.{flag}
use Rattle.ld_task.specs.Dependencies.{IsDependency}
use Rattle.ld_task.specs.Marks.{IsMarked}
use Rattle.ld_task.specs.Chains.{ChainParts, ChainHasDependency, ChainHasMark, ChainKeysBelow}
use Rattle.ld_task.specs.TraceChains.{chain, chains}
use Rattle.ld_task.specs.WellFormed.{fault}

-- the dependencies of a trace are those of its chains
abbrev pub DependenciesAreTheChains : Type 0
DependenciesAreTheChains =
    (t : List Event) (from to : ℕ) (kind : Kind)
    → IsDependency t from to kind ↔ Any (λ c. ChainHasDependency c from to kind) (chains t)

-- the marks of a trace are those of its chains
abbrev pub MarksAreTheChains : Type 0
MarksAreTheChains =
    (t : List Event) (key : ℕ) (mark : Mark)
    → IsMarked t key mark ↔ Any (λ c. ChainHasMark c key mark) (chains t)

-- the keys of a trace's chains are keys of the trace
abbrev pub ChainKeysAreTheTraces : Type 0
ChainKeysAreTheTraces = (t : List Event) (n : ℕ) → KeysBelow n t → All (ChainKeysBelow n) (chains t)

-- the chains of a beginning of a trace are among those of a longer one
abbrev pub BeginningsKeepTheirChains : Type 0
BeginningsKeepTheirChains = (t : List Event) (m n : ℕ) → m ≤ n →
    (c : ChainParts) → Contains (chains (take m t)) c → Contains (chains (take n t)) c

-- what isn't allowed in a beginning of a trace isn't allowed in the trace, for the same reason
abbrev pub BeginningsKeepTheirFaults : Type 0
BeginningsKeepTheirFaults = (t : List Event) (m j : ℕ) → j < m → fault (take m t) j ≡ fault t j

-- one more event adds its own chain, if it makes one
abbrev pub OneMoreEventAddsItsChain : Type 0
OneMoreEventAddsItsChain =
    (t : List Event) (e : Event)
    → chains (t ++ e ∷ []) ≡ chains t ++ option_to_list (chain (t ++ e ∷ []) (length t))

-- just after a state is turned on it is on, and the other one is as before
pub record IsOnAfter (t : List Event) (irq : Irq) (j : ℕ) : Type 0 where
  pub on : flag t irq (suc j) ≡ true
  pub other : (o : Irq) → o ≢ irq → flag t o (suc j) ≡ flag t o j

-- what holds just after each event that turns a state on
abbrev pub TurningOnTurnsOn : Type 0
TurningOnTurnsOn =
    (t : List Event) (irq : Irq) (j : ℕ) → event t j ≡ Some (TurnOn irq) → IsOnAfter t irq j
