-- What is decided of a ring of lists of steps: whether a schedule comes to a step of each at which the tasks stand still.
use Rattle.std.specs.Prelude.{◌≡◌, ℕ, zero, suc, Bool, false, List, [], ◌∷◌, Option, Some, None, length, map, nat_lt, slice_get, slice_index, if◌then◌else◌, All, Contains}
use Rattle.std.specs.List.Sorted.{IsStrictlyIncreasing}
use Rattle.std.specs.Borrow.{Bor}
use Rattle.ld_schedule.specs.declared.step.Step.{Step}
use Rattle.ld_schedule.specs.declared.decision.Standstill.{Standstill}
use Rattle.ld_schedule.specs.declared.decision.Decision.{Decision}
use Rattle.ld_schedule.specs.declared.decision.Reason.{Reason}
use Rattle.ld_schedule.specs.declared.decision.Decision.TheVariants.{Stands, Refuted, Undecided}
use Rattle.ld_schedule.specs.Histories.{HistoryParts, IsOf, EachLock, IsThread}
use Rattle.ld_schedule.specs.Schedules.{IsSchedule, IsReached, StandsStill}

-- the lists behind references
abbrev pub lists_of : List (Bor (List ℕ)) → List (List ℕ)
lists_of ring = map (λ list. list.now) ring

-- a cut has a position for each task: its steps before that position are below the cut
abbrev pub is_below_of : List ℕ → ℕ → Option Step → Bool
is_below_of cut p None = false
is_below_of cut p (Some step) = nat_lt p (slice_index cut step.task)

abbrev pub is_below : List Step → List ℕ → ℕ → Bool
is_below h cut p = is_below_of cut p (slice_get h p)

-- the positions before n that are below the cut, the latest first
abbrev pub below_before : List Step → List ℕ → ℕ → List ℕ
below_before h cut zero = []
below_before h cut (suc n) = if is_below h cut n then n ∷ below_before h cut n else below_before h cut n

-- the steps below the cut in their old order, the latest first
abbrev pub below : List Step → List ℕ → List ℕ
below h cut = below_before h cut (length h)

-- these are steps of one task, in their order
pub record AreOfOneTask (h : List Step) (steps : List ℕ) : Type 0 where
  pub task : ℕ
  pub each : All (IsOf h task) steps
  pub ascend : IsStrictlyIncreasing steps

-- one step of each list
pub record IsOneOfEach (ring : List (List ℕ)) (steps : List ℕ) : Type 0 where
  pub as_many : length steps ≡ length ring
  pub each : (k : ℕ) (d : List ℕ) → slice_get ring k ≡ Some d → Contains d (slice_index steps k)

-- the steps below the cut are a schedule that stands still at these steps, one of each list
pub record IsStandstill (h : List Step) (ring : List (List ℕ)) (found : Standstill) : Type 0 where
  pub is_schedule : IsSchedule EachLock h (below h found.cut.items)
  pub stands : StandsStill h (below h found.cut.items) found.steps.items
  pub of_ring : IsOneOfEach ring found.steps.items

-- the decision holds
abbrev pub IsDecided : HistoryParts → List (List ℕ) → Decision → Type 0
IsDecided h ring (Stands found) = IsStandstill h.steps ring found
IsDecided h ring (Refuted reason) = ¬ IsReached EachLock h.steps ring
IsDecided h ring Undecided = Unit {0}

-- if there is a reason, no schedule comes to a step of each list, even if the order of takings is asked of threads alone
abbrev pub IsKeptApart : HistoryParts → List (List ℕ) → Option Reason → Type 0
IsKeptApart h ring None = Unit {0}
IsKeptApart h ring (Some reason) = ¬ IsReached (IsThread h.kinds) h.steps ring
