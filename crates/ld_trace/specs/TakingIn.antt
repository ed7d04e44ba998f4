-- A table that takes in the names and the events of a trace that was read over a table of its own.
use Rattle.std.specs.Prelude.{◌≡◌, ℕ, ◌≤◌, true, List, [], ◌∷◌, length, map, take}
use Rattle.std.specs.List.{list_all}
use Rattle.ld_trace.specs.declared.event.Event.{Event}
use Rattle.ld_trace.specs.Lines.{event_of}
use Rattle.ld_trace.specs.Names.{Name, is_known, place_of, with_name}
use Rattle.ld_trace.specs.Writing.{line_at}

-- the names with these among them: each new one goes last
unfoldable pub with_all : (names more : List Name) → List Name
with_all names [] = names
with_all names (name ∷ more) = with_all (with_name names name) more

-- each of these few names is among those
abbrev pub Within : (few names : List Name) → Type 0
Within few names = list_all (is_known names) few ≡ true

-- the event that says the same over other names: its key has the number that its name has there
abbrev pub moved : (own names : List Name) → Event → Event
moved own names event = event_of names (line_at own event)

-- the events that say the same over other names
abbrev pub all_moved : (own names : List Name) → List Event → List Event
all_moved own names events = map (moved own names) events

-- these are the numbers that the keys of a table's first names have in another one, which has those names
pub record Leads (own : List Name) (numbers : List ℕ) (names : List Name) : Type 0 where
  pub few : length numbers ≤ length own
  pub within : Within (take (length numbers) own) names
  pub places : numbers ≡ map (place_of names) (take (length numbers) own)
