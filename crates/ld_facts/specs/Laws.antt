-- What holds of all facts: the laws that this crate proves of its definitions.
pub mod Bits
pub mod Chains
pub mod Counting
pub mod Growing
pub mod Lists
pub mod Numbers
pub mod Words
use Rattle.std.specs.Prelude.{◌≡◌, ℕ, ◌<◌, ◌≤◌, ◌↔◌, Option, IfSome, List, [], ◌∷◌, Any}
use Rattle.ld_trace.specs.declared.event.Event.{Event}
use Rattle.ld_task.specs.Chains.{ChainParts}
use Rattle.ld_task.specs.TraceChains.{chains}
use Rattle.ld_facts.specs.Counting.{IsNumberOf}
use Rattle.ld_facts.specs.ChainFacts.{GivenBy, StandsBy, slot_held}
use Rattle.ld_facts.specs.Facts.{TraceHas, ChainHas, ChainsHave, AreSame, Adds, DependenciesOf}
use Rattle.ld_facts.specs.FactBits.{FactParts, FactBelow, HasFact}
use Rattle.ld_facts.specs.Numbers.{bit_total, fact_number}
use Rattle.ld_facts.specs.declared.fact.Fact.{Fact}

-- ---- where facts come from
-- the facts of a trace are those of its chains
abbrev pub TraceFactsAreTheChains : Type 0
TraceFactsAreTheChains = (t : List Event) → AreSame (TraceHas t) (ChainsHave (chains t))

-- the slots of a chain have exactly the facts that it gives, each by the lock that gives it
abbrev pub SlotsHaveWhatIsGiven : Type 0
SlotsHaveWhatIsGiven = (c : ChainParts) (x : Fact) (held : Option ℕ) → GivenBy c x held ↔ StandsBy c x held

-- what a chain has is what it gives by one of its locks
abbrev pub ChainsGiveWhatTheyHave : Type 0
ChainsGiveWhatTheyHave = (c : ChainParts) (x : Fact) → ChainHas c x ↔ ((held : Option ℕ) × GivenBy c x held)

-- a later slot is that of a held lock that is as new, where both are of held locks
abbrev pub LaterSlotsAreOfNewerLocks : Type 0
LaterSlotsAreOfNewerLocks = (c : ChainParts) (m n : ℕ) → m ≤ n →
    IfSome (slot_held c n) (λ k. IfSome (slot_held c m) (λ i. i ≤ k))

-- the chains' facts are added in turn, and the later facts are those after the last
abbrev pub AddsInTurn : FactParts → List ChainParts → FactParts → Type 0
AddsInTurn old [] new = new ≡ old
AddsInTurn old (chain ∷ chains) new =
    (next : FactParts) × (next.keys ≡ old.keys) ×
    Adds (HasFact old) (HasFact next) (ChainHas chain) ×
    AddsInTurn next chains new

-- adding chains one after the other gives the union of their facts
abbrev pub AddingInTurnUnites : Type 0
AddingInTurnUnites = (old new : FactParts) (chains : List ChainParts) →
    AddsInTurn old chains new → (new.keys ≡ old.keys) ×
    Adds (HasFact old) (HasFact new) (ChainsHave chains)

-- the dependencies of some traces have one number, so that to tell one is to tell how many there are
abbrev pub DependenciesHaveOneNumber : Type 0
DependenciesHaveOneNumber = (traces : List (List Event)) (m n : ℕ) →
    IsNumberOf (DependenciesOf (λ x. Any (λ t. TraceHas t x) traces)) m →
    IsNumberOf (DependenciesOf (λ x. Any (λ t. TraceHas t x) traces)) n → m ≡ n

-- ---- facts and bits
-- a fact about keys below the bound has one of the bits
abbrev pub FactsHaveBits : Type 0
FactsHaveBits = (keys : ℕ) (x : Fact) → FactBelow keys x → fact_number keys x < bit_total keys

-- each of the bits is a fact's
abbrev pub EachBitIsAFacts : Type 0
EachBitIsAFacts = (keys n : ℕ) → n < bit_total keys → (x : Fact) × FactBelow keys x × (fact_number keys x ≡ n)

-- no two facts have one bit
abbrev pub FactsHaveDifferentBits : Type 0
FactsHaveDifferentBits = (keys : ℕ) (x y : Fact) → FactBelow keys x → FactBelow keys y →
    fact_number keys x ≡ fact_number keys y → x ≡ y
