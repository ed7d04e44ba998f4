-- Histories: the steps of all tasks of a process, in the order in which they came. A position is an index into them.
use Rattle.std.specs.Prelude.{◌≡◌, ℕ, ◌<◌, ◌⊎◌, List, Some, slice_get, unwrap_or}
use Rattle.ld_schedule.specs.declared.step.Step.{Step}
use Rattle.ld_schedule.specs.declared.step.Wait.{Wait}
use Rattle.ld_schedule.specs.declared.step.Wait.TheVariants.{Forever}
use Rattle.ld_schedule.specs.declared.step.HoldMode.{HoldMode}
use Rattle.ld_schedule.specs.declared.step.HoldMode.TheVariants.{Write}
use Rattle.ld_schedule.specs.declared.step.LockKind.{LockKind}
use Rattle.ld_schedule.specs.declared.step.LockKind.TheVariants.{Plain, Thread}
use Rattle.ld_schedule.specs.declared.step.Action.{Action}
use Rattle.ld_schedule.specs.declared.step.Action.TheVariants.{Take, Release}

-- the step at p is the task's, and is this action
abbrev pub Does : List Step → (p task : ℕ) → Action → Type 0
Does h p task action = slice_get h p ≡ Some (record { task = task; action = action })

-- the step at p is the task's
abbrev pub IsOf : List Step → (task p : ℕ) → Type 0
IsOf h task p = (action : Action) × Does h p task action

-- at p the task takes the lock in the mode
abbrev pub Takes : List Step → (p task lock : ℕ) → HoldMode → Type 0
Takes h p task lock mode = (wait : Wait) × Does h p task (Take lock mode wait)

-- at p the task takes the lock in the mode, and would wait for it for ever
abbrev pub TakesForever : List Step → (p task lock : ℕ) → HoldMode → Type 0
TakesForever h p task lock mode = Does h p task (Take lock mode Forever)

-- who has a lock in the one mode keeps others from taking it in the other
abbrev pub Blocks : HoldMode → HoldMode → Type 0
Blocks m n = (m ≡ Write) ⊎ (n ≡ Write)

-- when the steps of a set have come, the task has the lock in the mode: it has taken it, and not released it since
pub record Has (h : List Step) (Came : ℕ → Type 0) (task lock : ℕ) (mode : HoldMode) : Type 0 where
  pub at : ℕ
  pub takes : Takes h at task lock mode
  pub taken : Came at
  pub kept : (r : ℕ) → at < r → Does h r task (Release lock) → ¬ Came r

-- the steps, and what each lock stands for, by its number
pub record HistoryParts : Type 0 where
  pub steps : List Step
  pub kinds : List LockKind

-- a lock that nothing is said of is a plain one
abbrev pub kind_of : List LockKind → (lock : ℕ) → LockKind
kind_of kinds lock = unwrap_or (slice_get kinds lock) Plain

-- locks of which the order of takings is kept: all
abbrev pub EachLock : ℕ → Type 0
EachLock lock = Unit {0}

-- or those that stand for threads
abbrev pub IsThread : List LockKind → ℕ → Type 0
IsThread kinds lock = kind_of kinds lock ≡ Thread
