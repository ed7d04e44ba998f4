-- What is kept of the steps below a cut while they are gone over in their old order.
use Rattle.std.specs.Prelude.{◌≡◌, ℕ, ◌<◌, List, Option, Some, None, IsTrue, length, slice_index_or, All, Contains}
use Rattle.ld_schedule.specs.declared.step.Step.{Step}
use Rattle.ld_schedule.specs.declared.step.Wait.{Wait}
use Rattle.ld_schedule.specs.declared.step.HoldMode.{HoldMode}
use Rattle.ld_schedule.specs.declared.step.HoldMode.TheVariants.{Write}
use Rattle.ld_schedule.specs.declared.step.Action.{Action}
use Rattle.ld_schedule.specs.declared.step.Action.TheVariants.{Release, Take}
use Rattle.ld_schedule.specs.Histories.{Blocks, Does, Takes, Has, EachLock}
use Rattle.ld_schedule.specs.Schedules.{IsSchedule}
use Rattle.ld_schedule.specs.Decisions.{is_below, below_before}
use Rattle.ld_schedule.specs.Inside.HistoryTables.{IsAboutLock}

-- no release of the lock by the task after q is below the cut
abbrev pub NoneReleases : List Step → (cut : List ℕ) → (q task lock : ℕ) → Type 0
NoneReleases h cut q task lock = (r : ℕ) → q < r → Does h r task (Release lock) → ¬ IsTrue (is_below h cut r)

-- q is a taking below the cut whose release isn't below it
pub record IsKeptTaking (h : List Step) (cut : List ℕ) (q : ℕ) : Type 0 where
  pub task : ℕ
  pub lock : ℕ
  pub mode : HoldMode
  pub takes : Takes h q task lock mode
  pub below : IsTrue (is_below h cut q)
  pub kept : NoneReleases h cut q task lock

-- a lock that is kept in a mode, if it is kept, is kept in at least the other mode
abbrev pub Covers : Option HoldMode → HoldMode → Type 0
Covers None mode = ⊥
Covers (Some held) mode = mode ≡ Write → held ≡ Write

-- of the takings below the cut and before n, those whose release isn't below it, and the mode in which each lock is kept so
pub record AreKept (h : List Step) (cut : List ℕ) (n : ℕ) (modes : List (Option HoldMode)) (takings : List ℕ) : Type 0 where
  pub room : (p task : ℕ) (action : Action) (lock : ℕ) → Does h p task action → IsAboutLock action lock →
      lock < length modes
  pub covers : (q task lock : ℕ) (mode : HoldMode) → q < n → Takes h q task lock mode → IsTrue (is_below h cut q) →
      NoneReleases h cut q task lock → Covers (slice_index_or modes lock None) mode
  pub takings_are : All (IsKeptTaking h cut) takings

-- the steps below the cut and before n are a schedule, and this is kept of them
pub record IsReplayed (h : List Step) (cut : List ℕ) (n : ℕ) (modes : List (Option HoldMode)) (takings : List ℕ) :
    Type 0 where
  pub is_schedule : IsSchedule EachLock h (below_before h cut n)
  pub kept : AreKept h cut n modes takings

-- ---- waiting
-- the step takes the lock in a mode that blocks this one
abbrev pub TakesAgainst : Step → (lock : ℕ) → HoldMode → Type 0
TakesAgainst step lock mode = (held : HoldMode) × (wait : Wait) × (step.action ≡ Take lock held wait) × Blocks held mode

-- after the steps s the task has the lock in a mode that blocks this one
abbrev pub KeepsFrom : List Step → (s : List ℕ) → (task lock : ℕ) → HoldMode → Type 0
KeepsFrom h s task lock mode = (held : HoldMode) × Has h (Contains s) task lock held × Blocks held mode
