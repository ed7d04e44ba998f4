-- What is gathered from traces of which some may not be well formed [this project's own].
use Rattle.std.specs.Prelude.{◌≡◌, ◌<◌, ℕ, List, Option, Some, None, take, slice_get, ⊤}
use Rattle.ld_trace.specs.declared.event.Event.{Event}
use Rattle.ld_task.specs.declared.fault.StepAt.{StepAt}
use Rattle.ld_task.specs.WellFormed.{IsWellFormed, IsFirstFault}
use Rattle.ld_facts.specs.FactBits.{FactParts, HasFact}
use Rattle.ld_facts.specs.Facts.{AreSame, TraceHas}
use Rattle.ld_facts.specs.declared.fact.Fact.{Fact}

-- the trace has the fact before its first event that isn't allowed: a well-formed beginning of it has
abbrev pub HasBeforeFault : List Event → Fact → Type 0
HasBeforeFault t x = (n : ℕ) × IsWellFormed (take n t) × TraceHas (take n t) x

-- P holds of some trace whose place is mine
abbrev pub OfSome : List (List Event) → (ℕ → Type 0) → (List Event → Type 0) → Type 0
OfSome traces IsMine P = (i : ℕ) × (t : List Event) × IsMine i × (slice_get traces i ≡ Some t) × P t

-- every trace whose place is mine is well formed
abbrev pub AreWellFormed : List (List Event) → (ℕ → Type 0) → Type 0
AreWellFormed traces IsMine = (i : ℕ) (t : List Event) → IsMine i → slice_get traces i ≡ Some t → IsWellFormed t

-- a trace whose place is mine isn't well formed, and this is its place and its first event that isn't allowed
pub record IsRefused (traces : List (List Event)) (IsMine : ℕ → Type 0) (found : ℕ × StepAt) : Type 0 where
  pub refused : List Event
  pub is_mine : IsMine found.0
  pub at : slice_get traces found.0 ≡ Some refused
  pub fault : IsFirstFault refused found.1

-- of the traces whose places are mine, this is the first that isn't well formed, with its first event that isn't
-- allowed; or there is none, and all of them are well formed
abbrev pub LeastRefusedIs : List (List Event) → (ℕ → Type 0) → Option (ℕ × StepAt) → Type 0
LeastRefusedIs traces IsMine None = AreWellFormed traces IsMine
LeastRefusedIs traces IsMine (Some found) =
    IsRefused traces IsMine found × AreWellFormed traces (λ i. IsMine i × (i < found.0))

-- what was gathered from all the traces: exactly their facts before their first events that aren't allowed, and the first of
-- them that isn't well formed
abbrev pub Every : ℕ → Type 0
Every i = ⊤

pub record IsTally (traces : List (List Event)) (facts : FactParts) (refused : Option (ℕ × StepAt)) : Type 0 where
  pub facts_are : AreSame (HasFact facts) (λ x. OfSome traces Every (λ t. HasBeforeFault t x))
  pub refused_is : LeastRefusedIs traces Every refused
