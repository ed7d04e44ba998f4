-- The keys of a trace's events, and their tries.
use Rattle.std.specs.Prelude.{ℕ, ◌<◌, Bool, false, not, List, ⊤, All}
use Rattle.std.specs.List.{list_any}
use Rattle.ld_trace.specs.declared.event.Event.{Event}
use Rattle.ld_trace.specs.declared.event.Event.TheVariants.{Acquire, Release, Enter, Leave, TurnOn, TurnOff}
use Rattle.ld_trace.specs.Modes.{may_wait}

-- the event's key, if it has one, is below n
abbrev pub KeyIsBelow : ℕ → Event → Type 0
KeyIsBelow n (Acquire mode key) = key < n
KeyIsBelow n (Release key) = key < n
KeyIsBelow n (Enter irq) = ⊤
KeyIsBelow n Leave = ⊤
KeyIsBelow n (TurnOn irq) = ⊤
KeyIsBelow n (TurnOff irq) = ⊤

-- every key of these events is below n
abbrev pub KeysBelow : ℕ → List Event → Type 0
KeysBelow n events = All (KeyIsBelow n) events

-- the event takes a lock by a try
abbrev pub is_try : Event → Bool
is_try (Acquire mode key) = not (may_wait mode)
is_try (Release key) = false
is_try (Enter irq) = false
is_try Leave = false
is_try (TurnOn irq) = false
is_try (TurnOff irq) = false

-- one of these events does
abbrev pub has_try : List Event → Bool
has_try events = list_any is_try events
