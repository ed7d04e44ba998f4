-- Schedules: other orders in which recorded steps could have come, and where tasks stand still.
use Rattle.std.specs.Prelude.{◌≢◌, ◌⊎◌, ℕ, ◌+◌, ◌-◌, ◌<◌, ◌≤◌, List, [], ◌∷◌, length, slice_index, Contains, All, Any, AllPairs}
use Rattle.ld_schedule.specs.declared.step.Step.{Step}
use Rattle.ld_schedule.specs.declared.step.HoldMode.{HoldMode}
use Rattle.ld_schedule.specs.declared.step.HoldMode.TheVariants.{Write, Read}
use Rattle.ld_schedule.specs.declared.step.Action.TheVariants.{Again, Give, Get}
use Rattle.ld_schedule.specs.Histories.{Does, IsOf, Takes, TakesForever, Blocks, Has}

-- after the steps s, the step at p is its task's next: it hasn't come, and each earlier step of its task has
pub record IsNext (h : List Step) (s : List ℕ) (p : ℕ) : Type 0 where
  pub is_step : p < length h
  pub is_new : ¬ Contains s p
  pub follows : (q task : ℕ) → q < p → IsOf h task q → IsOf h task p → Contains s q

-- after the steps s, the step at p may come next, where the order of takings is kept of some locks
pub record MayCome (Kept : ℕ → Type 0) (h : List Step) (s : List ℕ) (p : ℕ) : Type 0 where
  pub is_next : IsNext h s p
  -- a message that it gets has been given
  pub given : (task message : ℕ) → Does h p task (Get message) →
      (q giver : ℕ) × Contains s q × Does h q giver (Give message)
  -- no other task has what it takes in a mode that blocks it
  pub free : (task other lock : ℕ) (mode other_mode : HoldMode) →
      Takes h p task lock mode → other ≢ task → Blocks other_mode mode →
      ¬ Has h (Contains s) other lock other_mode
  -- no taking by another task that comes later in the history has come, if one of the two is a writer's
  pub in_order : (q task other lock : ℕ) (mode other_mode : HoldMode) →
      Takes h p task lock mode → Kept lock →
      p < q → Takes h q other lock other_mode → other ≢ task → Blocks other_mode mode →
      ¬ Contains s q

-- the list is a schedule, its latest step first: each step may come after those before it
abbrev pub IsSchedule : (ℕ → Type 0) → List Step → List ℕ → Type 0
IsSchedule Kept h [] = Unit {0}
IsSchedule Kept h (p ∷ s) = IsSchedule Kept h s × MayCome Kept h s p

-- the step at p waits for the task of q: that has the lock which p would take, in a mode that blocks it
pub record WaitsForHolder (h : List Step) (s : List ℕ) (p q : ℕ) : Type 0 where
  pub task : ℕ
  pub other : ℕ
  pub lock : ℕ
  pub mode : HoldMode
  pub other_mode : HoldMode
  pub takes : TakesForever h p task lock mode
  pub is_of_other : IsOf h other q
  pub has : Has h (Contains s) other lock other_mode
  pub blocks : Blocks other_mode mode

-- the step at p waits behind a writer that waits at q for the same lock: p takes it as a plain reader, for the first
-- time or again
pub record WaitsBehindWriter (h : List Step) (p q : ℕ) : Type 0 where
  pub task : ℕ
  pub other : ℕ
  pub lock : ℕ
  pub reads : TakesForever h p task lock Read ⊎ Does h p task (Again lock)
  pub writes : TakesForever h q other lock Write

-- after the steps s, the task whose next step is p waits for the one whose next step is q
abbrev pub WaitsFor : List Step → List ℕ → (p q : ℕ) → Type 0
WaitsFor h s p q = WaitsForHolder h s p q ⊎ WaitsBehindWriter h p q

-- two steps are of different tasks
abbrev pub AreApart : List Step → (p q : ℕ) → Type 0
AreApart h p q = (task : ℕ) → IsOf h task p → ¬ IsOf h task q

-- after the steps s, tasks stand still at these steps, two or more: each step is its task's next, and waits for the one
-- that follows it, the last one for the first
pub record StandsStill (h : List Step) (s ring : List ℕ) : Type 0 where
  pub long : 2 ≤ length ring
  pub apart : AllPairs (AreApart h) ring
  pub next : All (IsNext h s) ring
  pub waits : (k : ℕ) → k + 1 < length ring → WaitsFor h s (slice_index ring k) (slice_index ring (k + 1))
  pub closed : WaitsFor h s (slice_index ring (length ring - 1)) (slice_index ring 0)

-- some schedule comes to where each of the lists has a step that is its task's next
pub record IsReached (Kept : ℕ → Type 0) (h : List Step) (ring : List (List ℕ)) : Type 0 where
  pub schedule : List ℕ
  pub is_schedule : IsSchedule Kept h schedule
  pub next : All (Any (IsNext h schedule)) ring
