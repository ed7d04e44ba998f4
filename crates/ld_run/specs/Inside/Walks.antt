-- Going along one trace, and gathering the facts of its chains [this project's own].
use Rattle.std.specs.Borrow.{Bor}
use Rattle.std.specs.Prelude.{◌≡◌, ◌+◌, ◌⊎◌, ℕ, List, Option, Some, None, IfOk, IfSome, OnOk, Result, Ok, Err, count_by, take, slice_get, slice_index}
use Rattle.ld_trace.specs.declared.event.Event.{Event}
use Rattle.ld_trace.specs.Events.{KeysBelow}
use Rattle.ld_task.specs.declared.fault.StepAt.{StepAt}
use Rattle.ld_task.specs.Chains.{ChainParts}
use Rattle.ld_task.specs.EndState.{EndState}
use Rattle.ld_task.specs.Events.{makes_chain}
use Rattle.ld_task.specs.Steps.{GoesOn, IsStateAfter}
use Rattle.ld_task.specs.TraceChains.{chains}
use Rattle.ld_task.specs.WellFormed.{IsWellFormed, IsFirstFault}
use Rattle.ld_facts.specs.FactBits.{FactParts, HasFact}
use Rattle.ld_facts.specs.Facts.{ChainHas, ChainsHave, Holds}
use Rattle.ld_facts.specs.Renumbered.{fact_by}
use Rattle.ld_facts.specs.declared.fact.Fact.{Fact}
use Rattle.ld_board.specs.Views.{KnowsFact, PutsOnly}
use Rattle.ld_board.specs.declared.view.View.{View}
use Rattle.ld_run.specs.Tallies.{HasBeforeFault}
use Rattle.ld_run.specs.declared.known_steps.Walk.{Walk}
use Rattle.ld_run.specs.declared.worker.OutOfMemory.{OutOfMemory}

-- where facts are gathered: on a board of so many keys, or among facts by what their keys are called
pub data Store : Type 0 where
  on_board : (keys : ℕ) → View → Store
  in_facts : Option (Bor (List ℕ)) → FactParts → Store

-- the fact is there: put or seen, or among the facts by what its keys are called
abbrev pub HasThere : Store → Fact → Type 0
HasThere (on_board keys now) x = KnowsFact keys now x
HasThere (in_facts None facts) x = HasFact facts x
HasThere (in_facts (Some others) facts) x = HasFact facts (fact_by (slice_index others.now) x)

-- nothing but the facts of the chains of the trace's first n events was put, and all of them are put or seen
pub record HasGathered (keys : ℕ) (start now : View) (t : List Event) (n : ℕ) : Type 0 where
  pub claimed : now.claimed ≡ start.claimed
  pub puts : PutsOnly keys start now (ChainsHave (chains (take n t)))
  pub knows : Holds (KnowsFact keys now) (ChainsHave (chains (take n t)))

-- along the trace, this many of its events were walked and allowed; this is the state after them, this many of them make a chain,
-- and the facts of their chains were gathered
pub record IsWalking (keys : ℕ) (start now : View) (t : List Event) (walk : Walk) : Type 0 where
  pub after : IsStateAfter t walk.place walk.state
  pub gathered : HasGathered keys start now t walk.place
  pub counted : walk.number ≡ count_by makes_chain (take walk.place t)

-- the event comes next in the trace, whose keys are below the bound
pub record ComesNext (keys : ℕ) (start now : View) (walk : Walk) (event : Event) (t : List Event) : Type 0 where
  pub walking : IsWalking keys start now t walk
  pub here : slice_get t walk.place ≡ Some event
  pub below : KeysBelow keys t

-- the event was allowed, and was walked; or it is the first that isn't allowed, and the facts were gathered up to it
abbrev pub WalksOn : (keys : ℕ) (start now : View) → Walk → List Event → Option StepAt → Type 0
WalksOn keys start now walk t None = IsWalking keys start now t walk
WalksOn keys start now walk t (Some found) =
    IsFirstFault t found × IsWellFormed (take found.place t) × HasGathered keys start now t found.place

-- at any place of any trace the event leads from the one state to the other, and the facts of its chain, if it makes one, are there
pub record IsStep (store : Store) (from : EndState) (event : Event) (to : EndState) : Type 0 where
  pub answer : Option ChainParts
  pub goes_on : (t : List Event) (n : ℕ) → IsStateAfter t n from → slice_get t n ≡ Some event → GoesOn t n to (Ok answer)
  pub knows : IfSome answer (λ c. Holds (HasThere store) (ChainHas c))

-- the walk along the trace went on from the one place to the other, and the facts of the chains on the way are there
pub record GoesAlong (store : Store) (t : List Event) (from to : Walk) : Type 0 where
  pub after : IsStateAfter t to.place to.state
  pub counted : to.number + count_by makes_chain (take from.place t) ≡ from.number + count_by makes_chain (take to.place t)
  pub keeps : Holds (ChainsHave (chains (take to.place t))) (ChainsHave (chains (take from.place t)))
  pub knows : (x : Fact) → ChainsHave (chains (take to.place t)) x → ChainsHave (chains (take from.place t)) x ⊎ HasThere store x

-- the first event of the trace that isn't allowed, or none if the trace is well formed
abbrev pub FirstFaultIs : List Event → Option StepAt → Type 0
FirstFaultIs t None = IsWellFormed t
FirstFaultIs t (Some found) = IsFirstFault t found

-- the trace was walked, to its end or to its first event that isn't allowed, unless the worker was lost: nothing but its facts before
-- that was put, and all of them are put or seen
pub record HasWalked (keys : ℕ) (start now : View) (t : List Event) (found : Result (Option StepAt) OutOfMemory) : Type 0 where
  pub claimed : now.claimed ≡ start.claimed
  pub puts : PutsOnly keys start now (HasBeforeFault t)
  pub knows : OnOk found (Holds (KnowsFact keys now) (HasBeforeFault t))
  pub fault : IfOk found (FirstFaultIs t)

-- the event if it isn't allowed; none also if the worker was lost after it
abbrev pub fault_in : Result (Option StepAt) OutOfMemory → Option StepAt
fault_in (Ok found) = found
fault_in (Err lost) = None

-- the trace that was refused before, or otherwise this one, if it is refused
abbrev pub first_refused_of : Option (ℕ × StepAt) → ℕ → Option StepAt → Option (ℕ × StepAt)
first_refused_of (Some before) trace found = Some before
first_refused_of None trace (Some first) = Some (trace, first)
first_refused_of None trace None = None
