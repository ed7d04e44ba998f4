-- Events whose keys get other numbers. No public clause speaks of these.
use Rattle.std.specs.Prelude.{ℕ, List, slice_index}
use Rattle.ld_trace.specs.declared.event.Event.{Event}
use Rattle.ld_trace.specs.declared.event.Event.TheVariants.{Acquire, Release, Enter, Leave, TurnOn, TurnOff}

-- the event, its key's number replaced by the one at that place of the list
abbrev pub event_with : (numbers : List ℕ) → Event → Event
event_with numbers (Acquire mode key) = Acquire mode (slice_index numbers key)
event_with numbers (Release key) = Release (slice_index numbers key)
event_with numbers (Enter irq) = Enter irq
event_with numbers Leave = Leave
event_with numbers (TurnOn irq) = TurnOn irq
event_with numbers (TurnOff irq) = TurnOff irq
