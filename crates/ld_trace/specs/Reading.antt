-- What the bytes of a trace stand for, and the first fault of one that stands for nothing [this project's own].
use Rattle.std.specs.Prelude.{◌≡◌, ℕ, zero, suc, ◌<◌, true, List, [], ◌∷◌, take, length, slice_get, nat_lt, Option, Some, None, unwrap_or, Result, Ok, Err, if◌then◌else◌}
use Rattle.csv.specs.Reading.{default_config, records, strip_bom}
use Rattle.ld_trace.specs.declared.event.Event.{Event}
use Rattle.ld_trace.specs.declared.raw_trace.TheConstants.{MAX_EVENTS}
use Rattle.ld_trace.specs.declared.trace_fault.TraceFault.{TraceFault}
use Rattle.ld_trace.specs.declared.trace_fault.TraceFaultKind.{TraceFaultKind}
use Rattle.ld_trace.specs.declared.trace_fault.TraceFaultKind.TheVariants.{NoHeader, TooManyRecords, TooManyKeys}
use Rattle.ld_trace.specs.declared.version.Version.{Version}
use Rattle.ld_trace.specs.declared.version.Version.TheVariants.{One}
use Rattle.ld_trace.specs.Lines.{Line, Record, event_of, is_over, line_of_record, version_of, with_line}
use Rattle.ld_trace.specs.Names.{Name}
use Rattle.ld_trace.specs.TraceFaults.{is_of_text}

-- the records of these bytes, as the definition of the crate `csv` gives them. They are at places 0, 1, and so on
abbrev pub records_of : List ℕ → List Record
records_of bytes = records default_config (strip_bom bytes)

-- the version of a trace of these records, which the first of them names; if it names none, the trace is refused there
abbrev pub version_in : List Record → Version
version_in [] = One
version_in (r ∷ rs) = unwrap_or (version_of r) One

-- the names with that of a record among them, if it says something that has one
abbrev pub with_read : List Name → Result Line TraceFaultKind → List Name
with_read names (Ok line) = with_line names line
with_read names (Err fault) = names

-- the names after these records: a name that isn't there goes last
unfoldable pub names_after : Version → List Name → List Record → List Name
names_after version names [] = names
names_after version names (r ∷ rs) =
    names_after version (with_read names (line_of_record version r)) rs

-- the names before the record at a place
abbrev pub names_before : Version → List Name → List Record → ℕ → List Name
names_before version old rows place = names_after version old (take place rows)

-- the fault of the version that the first record names
abbrev pub version_fault : Option Version → Option TraceFaultKind
version_fault None = Some NoHeader
version_fault (Some version) = None

-- the fault of the first record, if it has one: a trace without records has the same
abbrev pub header_fault : Option Record → Option TraceFaultKind
header_fault None = Some NoHeader
header_fault (Some r) = version_fault (version_of r)

-- the fault of what a record says, with room for `room` names
abbrev pub line_fault : ℕ → List Name → Result Line TraceFaultKind → Option TraceFaultKind
line_fault room names (Err fault) = Some fault
line_fault room names (Ok line) = if is_over room names line then Some TooManyKeys else None

-- the fault of a record after the first, if there is one at this place
abbrev pub record_fault : ℕ → Version → List Name → ℕ → Option Record → Option TraceFaultKind
record_fault room version names place None = None
record_fault room version names place (Some r) = if nat_lt MAX_EVENTS place then Some TooManyRecords
    else line_fault room names (line_of_record version r)

-- the fault of the record at a place, if it has one
unfoldable pub fault_at : ℕ → Version → List Name → List Record → ℕ → Option TraceFaultKind
fault_at room version old rows zero = header_fault (slice_get rows 0)
fault_at room version old rows (suc i) =
    record_fault room version (names_before version old rows (suc i)) (suc i) (slice_get rows (suc i))

-- the event of what a record says
abbrev pub line_event : List Name → Result Line TraceFaultKind → Option Event
line_event names (Err fault) = None
line_event names (Ok line) = Some (event_of names line)

-- the event of a record
abbrev pub record_event : Version → List Name → Option Record → Option Event
record_event version names None = None
record_event version names (Some r) = line_event names (line_of_record version r)

-- the event of the record at a place, if it stands for one
unfoldable pub event_at : Version → List Name → List Record → ℕ → Option Event
event_at version old rows place =
    record_event version (names_before version old rows place) (slice_get rows place)

-- the version of a trace of these bytes
abbrev pub version_of_trace : List ℕ → Version
version_of_trace bytes = version_in (records_of bytes)

-- with room for `room` names, these bytes are a trace without fault: it stands for these events, the event at place i
-- being that of the record at place i + 1, and takes the names of the keys from old to new
pub record ReadsTo (room : ℕ) (old : List Name) (bytes : List ℕ) (new : List Name) (events : List Event) : Type 0 where
  pub faultless : (place : ℕ) → fault_at room (version_of_trace bytes) old (records_of bytes) place ≡ None
  pub count : length (records_of bytes) ≡ suc (length events)
  pub each : (i : ℕ) → slice_get events i ≡ event_at (version_of_trace bytes) old (records_of bytes) (suc i)
  pub names : new ≡ names_after (version_of_trace bytes) old (records_of bytes)

-- with room for `room` names, reading these bytes stopped with this fault: the record with its number, counted from 1,
-- is the first with a fault of the text, or the reader or memory failed there; the names are those before that record
pub record StopsAt (room : ℕ) (old : List Name) (bytes : List ℕ) (new : List Name) (fault : TraceFault) : Type 0 where
  pub place : ℕ
  pub number : fault.at ≡ suc place
  pub here : is_of_text fault.kind ≡ true → fault_at room (version_of_trace bytes) old (records_of bytes) place ≡ Some fault.kind
  pub before : (i : ℕ) → i < place → fault_at room (version_of_trace bytes) old (records_of bytes) i ≡ None
  pub names : new ≡ names_before (version_of_trace bytes) old (records_of bytes) place
