-- Which steps all schedules have that come to a ring.
use Rattle.std.specs.Prelude.{◌≡◌, ◌≢◌, ◌⊎◌, ℕ, ◌<◌, List, length, slice_index, slice_set, All, Any, Contains}
use Rattle.ld_schedule.specs.declared.step.Step.{Step}
use Rattle.ld_schedule.specs.declared.step.HoldMode.{HoldMode}
use Rattle.ld_schedule.specs.declared.decision.KeptOrder.{KeptOrder}
use Rattle.ld_schedule.specs.declared.decision.KeptOrder.TheVariants.{OfAllLocks, OfThreads}
use Rattle.ld_schedule.specs.declared.history.TheConstants.{NEVER}
use Rattle.ld_schedule.specs.Histories.{HistoryParts, Blocks, IsOf, Takes, EachLock, IsThread}
use Rattle.ld_schedule.specs.Schedules.{IsSchedule, IsNext, IsReached}

-- the locks of which the order of takings is kept
abbrev pub KeptBy : KeptOrder → HistoryParts → ℕ → Type 0
KeptBy OfAllLocks h lock = EachLock lock
KeptBy OfThreads h lock = IsThread h.kinds lock

-- each schedule that comes to the ring has the steps of the task before this position
abbrev pub Forces : (ℕ → Type 0) → List Step → (ring : List (List ℕ)) → (task before : ℕ) → Type 0
Forces Kept h ring task before = (s : List ℕ) → IsSchedule Kept h s → All (Any (IsNext h s)) ring →
    (q : ℕ) → q < before → IsOf h task q → Contains s q

-- each schedule that comes to the ring has the steps below the cut
abbrev pub IsForced : (ℕ → Type 0) → List Step → (ring : List (List ℕ)) → (cut : List ℕ) → Type 0
IsForced Kept h ring cut = (task : ℕ) → Forces Kept h ring task (slice_index cut task)

-- whatever ring has the one cut forced has the other forced
abbrev pub KeepsForced : KeptOrder → HistoryParts → (old new : List ℕ) → Type 0
KeepsForced order h old new = (ring : List (List ℕ)) → IsForced (KeptBy order h) h.steps ring old →
    IsForced (KeptBy order h) h.steps ring new

-- no schedule comes to a ring that has the cut forced
abbrev pub Refutes : KeptOrder → HistoryParts → (cut : List ℕ) → Type 0
Refutes order h cut = (ring : List (List ℕ)) → IsForced (KeptBy order h) h.steps ring cut →
    ¬ IsReached (KeptBy order h) h.steps ring

-- the same of the rings that have this list
abbrev pub KeepsForcedWith : KeptOrder → HistoryParts → (list old new : List ℕ) → Type 0
KeepsForcedWith order h list old new = (ring : List (List ℕ)) → Contains ring list →
    IsForced (KeptBy order h) h.steps ring old → IsForced (KeptBy order h) h.steps ring new

abbrev pub RefutesWith : KeptOrder → HistoryParts → (list cut : List ℕ) → Type 0
RefutesWith order h list cut = (ring : List (List ℕ)) → Contains ring list →
    IsForced (KeptBy order h) h.steps ring cut → ¬ IsReached (KeptBy order h) h.steps ring

-- the cut is raised for the task to a position, or stays
abbrev pub IsRaised : (old new : List ℕ) → (task until : ℕ) → Type 0
IsRaised old new task until = (new ≡ old) ⊎ (new ≡ slice_set old task until)

-- both are takings below the cut of one lock whose order is kept, by two tasks, in modes that exclude each other, the
-- first one before the other
pub record MustFollow (order : KeptOrder) (h : HistoryParts) (cut : List ℕ) (taken later : ℕ) : Type 0 where
  pub task : ℕ
  pub other : ℕ
  pub lock : ℕ
  pub mode : HoldMode
  pub other_mode : HoldMode
  pub earlier : taken < later
  pub takes : Takes h.steps taken task lock mode
  pub takes_later : Takes h.steps later other lock other_mode
  pub differ : task ≢ other
  pub blocks : Blocks mode other_mode
  pub kept : KeptBy order h lock
  pub taken_below : taken < slice_index cut task
  pub later_below : later < slice_index cut other
  pub few : length h.steps < NEVER

-- the same of one ring
abbrev pub KeepsForcedFor : KeptOrder → HistoryParts → (ring : List (List ℕ)) → (old new : List ℕ) → Type 0
KeepsForcedFor order h ring old new =
    IsForced (KeptBy order h) h.steps ring old → IsForced (KeptBy order h) h.steps ring new

abbrev pub RefutesFor : KeptOrder → HistoryParts → (ring : List (List ℕ)) → (cut : List ℕ) → Type 0
RefutesFor order h ring cut = IsForced (KeptBy order h) h.steps ring cut → ¬ IsReached (KeptBy order h) h.steps ring
