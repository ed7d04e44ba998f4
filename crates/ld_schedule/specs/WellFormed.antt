-- Which histories are well formed.
use Rattle.std.specs.Prelude.{◌≢◌, ◌⊎◌, ℕ, ◌<◌, List, length}
use Rattle.ld_schedule.specs.declared.step.Step.{Step}
use Rattle.ld_schedule.specs.declared.step.HoldMode.{HoldMode}
use Rattle.ld_schedule.specs.declared.step.HoldMode.TheVariants.{Read, RecRead}
use Rattle.ld_schedule.specs.declared.step.Action.TheVariants.{Again, Release, Give, Get}
use Rattle.ld_schedule.specs.declared.history_fault.StepFault.{StepFault}
use Rattle.ld_schedule.specs.declared.history_fault.StepFault.TheVariants.{TakenByAnother, TakenAgain, NotHeld, GivenTwice, NotGiven}
use Rattle.ld_schedule.specs.Histories.{Does, Takes, Blocks, Has}

-- the steps before p
abbrev pub Before : ℕ → ℕ → Type 0
Before p q = q < p

-- some step before p gives the message
abbrev pub IsGivenBefore : List Step → (p message : ℕ) → Type 0
IsGivenBefore h p message = (q giver : ℕ) × (q < p) × Does h q giver (Give message)

-- the task has the lock before p, in some mode
abbrev pub HasBefore : List Step → (p task lock : ℕ) → Type 0
HasBefore h p task lock = (mode : HoldMode) × Has h (Before p) task lock mode

-- the task has the lock before p as a reader
abbrev pub ReadsBefore : List Step → (p task lock : ℕ) → Type 0
ReadsBefore h p task lock = Has h (Before p) task lock Read ⊎ Has h (Before p) task lock RecRead

-- at p a lock is taken that another task has in a mode that blocks it
pub record IsTakenByAnother (h : List Step) (p : ℕ) : Type 0 where
  pub task : ℕ
  pub other : ℕ
  pub lock : ℕ
  pub mode : HoldMode
  pub other_mode : HoldMode
  pub takes : Takes h p task lock mode
  pub differ : other ≢ task
  pub has : Has h (Before p) other lock other_mode
  pub blocks : Blocks other_mode mode

-- at p a lock is taken that the task has
abbrev pub IsTakenAgain : List Step → ℕ → Type 0
IsTakenAgain h p = (task lock : ℕ) × (mode : HoldMode) × Takes h p task lock mode × HasBefore h p task lock

-- at p a lock is released that the task doesn't have, or read again that it doesn't have as a reader
abbrev pub IsNotHeld : List Step → ℕ → Type 0
IsNotHeld h p = (task lock : ℕ) ×
    ((Does h p task (Release lock) × ¬ HasBefore h p task lock) ⊎
    (Does h p task (Again lock) × ¬ ReadsBefore h p task lock))

-- at p a message is given that was given before
abbrev pub IsGivenTwice : List Step → ℕ → Type 0
IsGivenTwice h p = (task message : ℕ) × Does h p task (Give message) × IsGivenBefore h p message

-- at p a message is got that wasn't given before
abbrev pub IsNotGiven : List Step → ℕ → Type 0
IsNotGiven h p = (task message : ℕ) × Does h p task (Get message) × ¬ IsGivenBefore h p message

-- the step at p has this fault
abbrev pub IsFaultAt : List Step → ℕ → StepFault → Type 0
IsFaultAt h p TakenByAnother = IsTakenByAnother h p
IsFaultAt h p TakenAgain = IsTakenAgain h p
IsFaultAt h p NotHeld = IsNotHeld h p
IsFaultAt h p GivenTwice = IsGivenTwice h p
IsFaultAt h p NotGiven = IsNotGiven h p

-- the steps before n have no fault
abbrev pub NoneFaultyBefore : List Step → ℕ → Type 0
NoneFaultyBefore h n = (p : ℕ) → p < n → (fault : StepFault) → ¬ IsFaultAt h p fault

-- no step has a fault
abbrev pub IsWellFormed : List Step → Type 0
IsWellFormed h = NoneFaultyBefore h (length h)

-- the step at p is the first that has a fault, and this is one of it
pub record IsFirstFault (h : List Step) (p : ℕ) (fault : StepFault) : Type 0 where
  pub in_range : p < length h
  pub faulty : IsFaultAt h p fault
  pub first : NoneFaultyBefore h p
