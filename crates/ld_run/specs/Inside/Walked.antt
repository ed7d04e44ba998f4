-- Traces that were walked for their facts, one after the other or side by side [this project's own].
use Rattle.std.specs.Borrow.{Bor}
use Rattle.std.specs.Prelude.{◌≡◌, ◌<◌, ◌≤◌, ⊤, ℕ, List, Option, Some, None, All, Result, Ok, Err, length, slice_get, slice_index, take}
use Rattle.ld_trace.specs.Events.{KeysBelow}
use Rattle.ld_trace.specs.declared.event.Event.{Event}
use Rattle.ld_task.specs.Chains.{ChainKeysBelow, ChainParts}
use Rattle.ld_task.specs.EndState.{EndState}
use Rattle.ld_task.specs.Steps.{IsStateAfter}
use Rattle.ld_task.specs.TraceChains.{chains}
use Rattle.ld_task.specs.WellFormed.{IsWellFormed}
use Rattle.ld_facts.specs.FactBits.{FactParts, HasFact}
use Rattle.ld_facts.specs.Facts.{Adds, AreSame, ChainsHave}
use Rattle.ld_facts.specs.Renaming.{Image}
use Rattle.ld_facts.specs.TraceFacts.{TracesHave, IsFirstRefused}
use Rattle.ld_facts.specs.declared.fact.Fact.{Fact}
use Rattle.ld_trace.specs.declared.raw_trace.TheConstants.{MAX_TRACES}
use Rattle.ld_run.specs.Runs.{IsCrew}
use Rattle.ld_run.specs.declared.shares.Unwalked.{Unwalked}
use Rattle.ld_run.specs.declared.shares.Unwalked.TheVariants.{Memory, Refused}

-- facts by what their keys are called: the key at its place in a list, if there is one, and otherwise the key itself
abbrev pub CalledBy : Option (Bor (List ℕ)) → (Fact → Type 0) → Fact → Type 0
CalledBy None Has = Has
CalledBy (Some others) Has = Image (slice_index others.now) Has

-- the keys of the trace, or of the chain, are called below a bound
abbrev pub CallsBelow : Option (Bor (List ℕ)) → (keys : ℕ) → List Event → Type 0
CallsBelow None keys trace = KeysBelow keys trace
CallsBelow (Some others) keys trace = All (λ key. key < keys) others.now × KeysBelow (length others.now) trace

abbrev pub ChainCallsBelow : Option (Bor (List ℕ)) → (keys : ℕ) → ChainParts → Type 0
ChainCallsBelow None keys c = ChainKeysBelow keys c
ChainCallsBelow (Some others) keys c = All (λ key. key < keys) others.now × ChainKeysBelow (length others.now) c

-- the first n events of the trace were allowed, this is the state after them, and the facts of their chains were added
pub record IsSumming (others : Option (Bor (List ℕ))) (start facts : FactParts) (t : List Event) (n : ℕ) (state : EndState) : Type 0 where
  pub after : IsStateAfter t n state
  pub keys_are : facts.keys ≡ start.keys
  pub facts_are : Adds (HasFact start) (HasFact facts) (CalledBy others (ChainsHave (chains (take n t))))

-- the event comes next in the trace, whose keys are called below the bound
pub record IsNext (others : Option (Bor (List ℕ))) (start facts : FactParts) (t : List Event) (n : ℕ) (state : EndState) (event : Event) : Type 0 where
  pub summing : IsSumming others start facts t n state
  pub here : slice_get t n ≡ Some event
  pub below : CallsBelow others facts.keys t

-- all of the traces are well formed, and these are exactly their facts, by what their keys are called
pub record AreWalked (others : Option (Bor (List ℕ))) (keys : ℕ) (traces : List (List Event)) (facts : FactParts) : Type 0 where
  pub keys_are : facts.keys ≡ keys
  pub well_formed : All IsWellFormed traces
  pub facts_are : AreSame (HasFact facts) (CalledBy others (TracesHave traces))

-- not all of them were walked, because memory was refused, or by the first trace that isn't well formed
abbrev pub StopsWalk : List (List Event) → Unwalked → Type 0
StopsWalk traces Memory = ⊤
StopsWalk traces (Refused trace first) = IsFirstRefused traces trace first

-- the walk ended in this way
abbrev pub EndsWalk : Option (Bor (List ℕ)) → ℕ → List (List Event) → Result FactParts Unwalked → Type 0
EndsWalk others keys traces (Ok facts) = AreWalked others keys traces facts
EndsWalk others keys traces (Err unwalked) = StopsWalk traces unwalked

-- the run of this many workers over these traces is completed with these facts, by what their keys are called
pub record CompletesCalled (others : Option (Bor (List ℕ))) (traces : List (List Event)) (workers : ℕ) (facts : FactParts) : Type 0 where
  pub crew : IsCrew workers
  pub few : length traces ≤ MAX_TRACES
  pub well_formed : All IsWellFormed traces
  pub facts_are : AreSame (HasFact facts) (CalledBy others (TracesHave traces))
