-- What holds of all traces: the laws that this crate proves of its definitions.
use Rattle.std.specs.Prelude.{◌≡◌, ℕ, ◌≤◌, List, [], ◌∷◌, ◌++◌, length, map}
use Rattle.ld_trace.specs.declared.event.Event.{Event}
use Rattle.ld_trace.specs.declared.raw_trace.TheConstants.{MAX_EVENTS}
use Rattle.ld_trace.specs.Events.{KeysBelow}
use Rattle.ld_trace.specs.Lines.{Line, with_line}
use Rattle.ld_trace.specs.Names.{AreNumbered, Name, Table}
use Rattle.ld_trace.specs.Reading.{ReadsTo}
use Rattle.ld_trace.specs.TakingIn.{Leads, Within, all_moved, with_all}
use Rattle.ld_trace.specs.Writing.{line_at, trace_text}

-- what the events say, with their keys' names
abbrev pub lines_at : List Name → List Event → List Line
lines_at names events = map (line_at names) events

-- the names with those of the lines among them: each new one goes last
unfoldable pub with_lines : List Name → List Line → List Name
with_lines names [] = names
with_lines names (line ∷ lines) = with_lines (with_line names line) lines

-- these may be a trace's events and a table that has their keys
pub record AreOfTable (table : Table) (events : List Event) : Type 0 where
  pub numbered : AreNumbered table
  pub below : KeysBelow (length table.names) events
  pub few : length events ≤ MAX_EVENTS

-- with room for `room` names, the text of these events reads without fault over the names `old`: it takes them to
-- `new`, which has the events' names too, and stands for events that say the same, each with the number of its key's
-- name in `new`
pub record ReadsBack (room : ℕ) (names : List Name) (events : List Event) (old new : List Name) (read : List Event) : Type 0 where
  pub reads : ReadsTo room old (trace_text names events) new read
  pub names_are : new ≡ with_lines old (lines_at names events)
  pub same : lines_at new read ≡ lines_at names events

-- the text of a trace reads back over any names with room for its own
abbrev pub TextsReadBack : Type 0
TextsReadBack = (table : Table) (events : List Event) → AreOfTable table events
    → (room : ℕ) (old : List Name) → length (with_lines old (lines_at table.names events)) ≤ room
    → (new : List Name) × (read : List Event) × ReadsBack room table.names events old new read

-- a new table with as much room has room for the names of any trace
abbrev pub NewTablesHaveRoom : Type 0
NewTablesHaveRoom = (table : Table) (events : List Event) → AreOfTable table events
    → length (with_lines [] (lines_at table.names events)) ≤ table.room

-- over the table that it was written with, the text stands for the very events
abbrev pub TextsReadThemselves : Type 0
TextsReadThemselves = (table : Table) (events : List Event) → AreOfTable table events
    → ReadsTo table.room table.names (trace_text table.names events) table.names events

-- a trace that reads over some names reads over any others too that have those, where there is room for all that it adds: it takes
-- them to the others with its own among them, and stands for events that say the same
abbrev pub TracesReadAlike : Type 0
TracesReadAlike = (any room : ℕ) (start own names : List Name) (bytes : List ℕ) (events : List Event)
    → Within start names → ReadsTo any start bytes own events → length (with_all names own) ≤ room
    → ReadsTo room names bytes (with_all names own) (all_moved own (with_all names own) events)

-- a renumbering stays one when the table gets more names
abbrev pub RenumberingsStay : Type 0
RenumberingsStay = (own names more : List Name) (numbers : List ℕ) → Leads own numbers names → Leads own numbers (names ++ more)
