-- The text of a trace, as it is written [the text format is this project's own].
use Rattle.std.specs.Prelude.{ℕ, ◌+◌, ◌++◌, List, [], ◌∷◌, codes, slice_get, unwrap_or, if◌then◌else◌}
use Rattle.std.specs.List.{flat_map}
use Rattle.csv.specs.Writing.{default_writer, row_text}
use Rattle.ld_trace.specs.declared.event.Event.{Event}
use Rattle.ld_trace.specs.declared.event.Event.TheVariants.{Acquire, Release, Enter, Leave, TurnOn, TurnOff}
use Rattle.ld_trace.specs.declared.event.Irq.{Irq}
use Rattle.ld_trace.specs.declared.event.Irq.TheVariants.{Hard, Soft}
use Rattle.ld_trace.specs.declared.event.Mode.{Mode}
use Rattle.ld_trace.specs.declared.event.Mode.TheVariants.{Write, Read, RecRead, TryWrite, TryRead, TryRecRead}
use Rattle.ld_trace.specs.declared.version.Version.{Version}
use Rattle.ld_trace.specs.declared.version.Version.TheVariants.{One, Two}
use Rattle.ld_trace.specs.Events.{has_try}
use Rattle.ld_trace.specs.Lines.{Line, Record, takes, gives_back, enters, leaves, turns_on, turns_off}
use Rattle.ld_trace.specs.Names.{Name}

-- the name of the key of this number; an empty one if there is no such key
abbrev pub name_at : List Name → ℕ → Name
name_at names key = unwrap_or (slice_get names key) ([], 0)

-- what an event says, with its key's name
abbrev pub line_at : List Name → Event → Line
line_at names (Acquire mode key) = takes (name_at names key) mode
line_at names (Release key) = gives_back (name_at names key)
line_at names (Enter irq) = enters irq
line_at names Leave = leaves
line_at names (TurnOn irq) = turns_on irq
line_at names (TurnOff irq) = turns_off irq

-- a mode's word
abbrev pub mode_word : Mode → List ℕ
mode_word Write = codes "w"
mode_word Read = codes "r"
mode_word RecRead = codes "rr"
mode_word TryWrite = codes "tw"
mode_word TryRead = codes "tr"
mode_word TryRecRead = codes "trr"

-- a state's word
abbrev pub irq_word : Irq → List ℕ
irq_word Hard = codes "hardirq"
irq_word Soft = codes "softirq"

-- a subclass's digit
abbrev pub sub_word : ℕ → List ℕ
sub_word sub = (48 + sub) ∷ []

-- the record that says this
abbrev pub record_of : Line → Record
record_of (takes name mode) = codes "acq" ∷ name.0 ∷ sub_word name.1 ∷ mode_word mode ∷ []
record_of (gives_back name) = codes "rel" ∷ name.0 ∷ sub_word name.1 ∷ []
record_of (enters irq) = codes "enter" ∷ irq_word irq ∷ []
record_of leaves = codes "leave" ∷ []
record_of (turns_on irq) = codes "on" ∷ irq_word irq ∷ []
record_of (turns_off irq) = codes "off" ∷ irq_word irq ∷ []

-- the first version that has all of these events
abbrev pub version_for : List Event → Version
version_for events = if has_try events then Two else One

-- the header of a version
abbrev pub header_of : Version → Record
header_of One = codes "lockdep" ∷ codes "1" ∷ []
header_of Two = codes "lockdep" ∷ codes "2" ∷ []

-- the text of a record, as the definition of the crate `csv` gives it: its fields with commas between them, a line feed
-- after them, and a field with a comma or a double quote in it between double quotes, each double quote in it written
-- twice
abbrev pub record_text : Record → List ℕ
record_text fields = row_text default_writer fields

-- the text of an event
abbrev pub event_text : List Name → Event → List ℕ
event_text names event = record_text (record_of (line_at names event))

-- the text of a trace: its header, and its events in order
unfoldable pub trace_text : List Name → List Event → List ℕ
trace_text names events = record_text (header_of (version_for events)) ++ flat_map (event_text names) events
