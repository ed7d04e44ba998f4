-- What a history keeps beside its steps, and what is kept of the steps before one while they are gone over.
use Rattle.std.specs.Prelude.{◌≡◌, ◌≢◌, ◌⊎◌, ℕ, ◌<◌, List, [], Option, Some, None, length, slice_index, slice_index_or, Contains, All, AllPairs}
use Rattle.std.specs.Global.{Vec}
use Rattle.ld_schedule.specs.declared.step.Step.{Step}
use Rattle.ld_schedule.specs.declared.step.Wait.{Wait}
use Rattle.ld_schedule.specs.declared.step.HoldMode.{HoldMode}
use Rattle.ld_schedule.specs.declared.step.HoldMode.TheVariants.{Write}
use Rattle.ld_schedule.specs.declared.step.Action.TheVariants.{Again, Take, Release, Give, Get}
use Rattle.ld_schedule.specs.declared.step.Action.{Action}
use Rattle.ld_schedule.specs.declared.history_fault.StepFault.{StepFault}
use Rattle.ld_schedule.specs.declared.history_fault.StepFault.TheVariants.{TakenByAnother, TakenAgain}
use Rattle.ld_schedule.specs.declared.history.TheConstants.{NEVER}
use Rattle.ld_schedule.specs.Histories.{Blocks, Does, IsOf, Takes}
use Rattle.ld_schedule.specs.Schedules.{AreApart}
use Rattle.ld_schedule.specs.WellFormed.{IsWellFormed, IsTakenByAnother, IsTakenAgain, IsNotHeld, IsGivenTwice, IsNotGiven}

-- ---- messages
-- the message that the action is about
abbrev pub message_named : Action → Option ℕ
message_named (Give message) = Some message
message_named (Get message) = Some message
message_named _ = None

abbrev pub IsAbout : Action → (message : ℕ) → Type 0
IsAbout action message = message_named action ≡ Some message

-- at g, before n, some task gives the message
abbrev pub IsGivenAt : List Step → (n message g : ℕ) → Type 0
IsGivenAt h n message g = (g < n) × ((giver : ℕ) × Does h g giver (Give message))

-- where each message is given before n, or NEVER
pub record AreGivings (h : List Step) (n : ℕ) (givings : List ℕ) : Type 0 where
  pub room : (p task : ℕ) (action : Action) (message : ℕ) → Does h p task action → IsAbout action message →
      message < length givings
  pub each : (q giver message : ℕ) → q < n → Does h q giver (Give message) → slice_index givings message ≡ q
  pub only : (message : ℕ) → message < length givings →
      (slice_index givings message ≡ NEVER) ⊎ IsGivenAt h n message (slice_index givings message)

-- the step at p has no fault with its message
abbrev pub NoMessageFault : List Step → ℕ → Type 0
NoMessageFault h p = (¬ IsGivenTwice h p) × (¬ IsNotGiven h p)

-- ---- locks
-- r is where the task first releases the lock after q, among the steps before n, or NEVER
pub record IsReleaseOf (h : List Step) (n q task lock r : ℕ) : Type 0 where
  pub later : q < r
  pub none_between : (x : ℕ) → q < x → x < r → x < n → ¬ Does h x task (Release lock)
  pub found : (r ≡ NEVER) ⊎ ((r < n) × Does h r task (Release lock))

-- the release of each taking before n, among the steps before n
abbrev pub AreReleases : List Step → (n : ℕ) → (releases : List ℕ) → Type 0
AreReleases h n releases = (q task lock : ℕ) (mode : HoldMode) → q < n → Takes h q task lock mode →
    IsReleaseOf h n q task lock (slice_index releases q)

-- q is a taking of the lock that isn't released before n
pub record IsOpenTaking (h : List Step) (n lock : ℕ) (releases : List ℕ) (q : ℕ) : Type 0 where
  pub before : q < n
  pub task : ℕ
  pub mode : HoldMode
  pub takes : Takes h q task lock mode
  pub unreleased : slice_index releases q ≡ NEVER

-- the takings of the lock that aren't released before n, each by another task
pub record AreOpen (h : List Step) (n lock : ℕ) (releases held : List ℕ) : Type 0 where
  pub sound : All (IsOpenTaking h n lock releases) held
  pub apart : AllPairs (AreApart h) held
  pub complete : (q task : ℕ) (mode : HoldMode) → q < n → Takes h q task lock mode →
      slice_index releases q ≡ NEVER → Contains held q

-- the lock that the action is about
abbrev pub lock_named : Action → Option ℕ
lock_named (Take lock mode wait) = Some lock
lock_named (Again lock) = Some lock
lock_named (Release lock) = Some lock
lock_named _ = None

abbrev pub IsAboutLock : Action → (lock : ℕ) → Type 0
IsAboutLock action lock = lock_named action ≡ Some lock

-- what is kept of the takings before n: the open ones of each lock, and the releases of all
pub record AreTakings (h : List Step) (n : ℕ) («open» : List (Vec ℕ)) (releases : List ℕ) : Type 0 where
  pub room : (p task : ℕ) (action : Action) (lock : ℕ) → Does h p task action → IsAboutLock action lock →
      lock < length «open»
  pub as_many : length releases ≡ n
  pub releases_are : AreReleases h n releases
  pub open_are : (lock : ℕ) (d : Vec ℕ) → lock < length «open» →
      AreOpen h n lock releases (slice_index_or «open» lock d).items

-- nothing is open or released of this many locks
pub record IsEmptyFor (locks : ℕ) («open» : List (Vec ℕ)) (releases : List ℕ) : Type 0 where
  pub as_many : length «open» ≡ locks
  pub none_open : All (λ (held : Vec ℕ). held.items ≡ []) «open»
  pub none_released : releases ≡ []

-- the step at p has no fault with its lock
pub record NoTakingFault (h : List Step) (p : ℕ) : Type 0 where
  pub not_by_another : ¬ IsTakenByAnother h p
  pub not_again : ¬ IsTakenAgain h p
  pub is_held : ¬ IsNotHeld h p

-- q keeps a task from taking in the mode the lock that q takes, with this fault
abbrev pub Hinders : List Step → (task : ℕ) → HoldMode → StepFault → (q : ℕ) → Type 0
Hinders h task mode TakenAgain q = IsOf h task q
Hinders h task mode TakenByAnother q = (other lock : ℕ) × (other_mode : HoldMode) ×
    Takes h q other lock other_mode × (other ≢ task) × Blocks other_mode mode
Hinders h task mode _ q = ⊥

-- the step takes a lock in a mode that blocks this one
abbrev pub IsBlockingStep : Step → HoldMode → Type 0
IsBlockingStep step mode = (lock : ℕ) × (other_mode : HoldMode) × (wait : Wait) ×
    (step.action ≡ Take lock other_mode wait) × Blocks other_mode mode

-- q doesn't keep a task from taking in the mode the lock that q takes
abbrev pub LeavesFree : List Step → (task : ℕ) → HoldMode → (q : ℕ) → Type 0
LeavesFree h task mode q = (other lock : ℕ) (other_mode : HoldMode) → Takes h q other lock other_mode →
    (other ≢ task) × (¬ Blocks other_mode mode)

-- the step takes a lock as a reader
abbrev pub IsReadingStep : Step → Type 0
IsReadingStep step = (lock : ℕ) × (mode : HoldMode) × (wait : Wait) × (step.action ≡ Take lock mode wait) × (mode ≢ Write)

-- q is a taking of the task as a reader
abbrev pub IsReading : List Step → (task q : ℕ) → Type 0
IsReading h task q = (lock : ℕ) × (mode : HoldMode) × Takes h q task lock mode × (mode ≢ Write)

-- ---- a history
-- a well formed history, with numbers above those of each task and each lock, and its tables
pub record IsHistory (h : List Step) (releases givings : List ℕ) (tasks locks : ℕ) : Type 0 where
  pub well_formed : IsWellFormed h
  pub as_many : length releases ≡ length h
  pub releases_are : AreReleases h (length h) releases
  pub givings_are : AreGivings h (length h) givings
  pub tasks_below : (p task : ℕ) → IsOf h task p → task < tasks
  pub locks_below : (p task : ℕ) (action : Action) (lock : ℕ) → Does h p task action → IsAboutLock action lock → lock < locks
  pub few : length h < NEVER

-- what is kept of all steps of a well formed history
pub record HaveTables (h : List Step) («open» : List (Vec ℕ)) (releases givings : List ℕ) : Type 0 where
  pub well_formed : IsWellFormed h
  pub takings_are : AreTakings h (length h) «open» releases
  pub givings_are : AreGivings h (length h) givings
