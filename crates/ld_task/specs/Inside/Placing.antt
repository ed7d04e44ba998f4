-- How one event changes the positions of a task's locks. Only private clauses cite these words.
use Rattle.std.specs.Prelude.{◌≡◌, ℕ, List, [], ◌∷◌, ◌++◌, Option, Some, None, Result, OnOk, OnErr, remove, if◌then◌else◌}
use Rattle.ld_trace.specs.declared.event.Event.{Event}
use Rattle.ld_trace.specs.declared.event.Event.TheVariants.{Acquire, Release, Enter, Leave, TurnOn, TurnOff}
use Rattle.ld_task.specs.EndState.{EndState}
use Rattle.ld_task.specs.Chains.{ChainParts}
use Rattle.ld_task.specs.Inside.Machine.{Does, is_at, newest}
use Rattle.ld_task.specs.Placed.{PlacedParts}
use Rattle.ld_task.specs.declared.fault.StepFault.{StepFault}
use Rattle.ld_task.specs.declared.lock.KeptLock.{KeptLock}

-- the positions except the one at this place of the list
abbrev pub without_place : List ℕ → Option ℕ → List ℕ
without_place places None = places
without_place places (Some k) = remove places k

-- the positions after the event at n, which isn't refused
abbrev pub places_after : EndState → List ℕ → ℕ → Event → List ℕ
places_after s places n (Acquire mode key) = places ++ n ∷ []
places_after s places n (Release key) = without_place places (newest s key)
places_after s places n (Enter irq) = places
places_after s places n Leave = places
places_after s places n (TurnOn irq) = places
places_after s places n (TurnOff irq) = places

-- what the event at n does to a state and its positions
abbrev pub DoesPlaced : PlacedParts → ℕ → Event → PlacedParts → Result (Option ChainParts) StepFault → Type 0
DoesPlaced old n e new r =
    Does old.state e new.state r
    × OnOk r (new.places ≡ places_after old.state old.places n e)
    × OnErr r (new.places ≡ old.places)

-- given a position for each lock, those whose lock was taken at this level
abbrev pub places_at : ℕ → List KeptLock → List ℕ → List ℕ
places_at level [] places = []
places_at level (k ∷ ks) [] = []
places_at level (k ∷ ks) (p ∷ ps) = if is_at level k then p ∷ places_at level ks ps else places_at level ks ps
