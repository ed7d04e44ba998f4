-- What one call of `work` does with its seat [this project's own].
use Rattle.std.specs.Prelude.{◌≡◌, ◌≤◌, ℕ, List, ◌∷◌, ◌++◌, Option, IfSome, IsFalse, Contains, length}
use Rattle.ld_trace.specs.declared.event.Event.{Event}
use Rattle.ld_task.specs.declared.fault.StepAt.{StepAt}
use Rattle.ld_facts.specs.Facts.{Holds}
use Rattle.ld_facts.specs.declared.fact.Fact.{Fact}
use Rattle.ld_board.specs.Views.{KnowsFact, PutsOnly}
use Rattle.ld_board.specs.Seats.{view}
use Rattle.ld_run.specs.Tallies.{HasBeforeFault, IsRefused, LeastRefusedIs, OfSome}
use Rattle.ld_board.specs.declared.view.View.{View}
use Rattle.ld_run.specs.declared.worker.Worked.{Worked}

-- some trace whose place was drawn has the fact before its first event that isn't allowed
abbrev pub DrawnHave : List (List Event) → (drawn : List ℕ) → Fact → Type 0
DrawnHave traces drawn x = OfSome traces (Contains drawn) (λ t. HasBeforeFault t x)

-- numbers were drawn until one was no trace's place; all facts of the traces drawn were put or seen; and the first of these
-- traces that isn't well formed was found
pub record HasFinished (keys : ℕ) (traces : List (List Event)) (drawn : List ℕ) (after : View) (refused : Option (ℕ × StepAt)) : Type 0 where
  pub last : ℕ
  pub before : List ℕ
  pub drawn_are : drawn ≡ last ∷ before
  pub past : length traces ≤ last
  pub knows : Holds (KnowsFact keys after) (DrawnHave traces drawn)
  pub least : LeastRefusedIs traces (Contains drawn) refused

-- what a call of `work` leaves of the view that it got: the numbers drawn were claimed, only facts of the traces drawn
-- were put, and a trace drawn that isn't well formed may be named; unless the worker was lost, it has finished
pub record HasWorked (keys : ℕ) (traces : List (List Event)) (before : View) (worked : Worked) : Type 0 where
  pub drawn : List ℕ
  pub claimed : (view worked.seat).claimed ≡ drawn ++ before.claimed
  pub puts : PutsOnly keys before (view worked.seat) (DrawnHave traces drawn)
  pub refused : IfSome worked.refused (IsRefused traces (Contains drawn))
  pub finished : IsFalse worked.lost → HasFinished keys traces drawn (view worked.seat) worked.refused
