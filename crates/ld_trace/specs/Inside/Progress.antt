-- What holds while a trace is read, of the records that were taken so far. No public clause speaks of these.
use Rattle.std.specs.Prelude.{◌≡◌, ℕ, suc, ◌<◌, ◌++◌, None, false, List, [], ◌∷◌, length, slice_get, Option, Some, IfSome, option_map, Result, Ok}
use Rattle.csv.specs.Reading.{Ready, Reached, default_config, reader_config, reader_state, reader_trim, source_of, strip_bom}
use Rattle.csv.specs.declared.error.ErrorKind.{ErrorKind}
use Rattle.csv.specs.declared.error.ErrorKind.TheVariants as kind
use Rattle.csv.specs.declared.parser.State.TheVariants as st
use Rattle.csv.specs.declared.reader.Reader.{Reader}
use Rattle.csv.specs.declared.reader.Trim.TheVariants as trim
use Rattle.ld_trace.specs.declared.event.Event.{Event}
use Rattle.ld_trace.specs.Events.{KeysBelow}
use Rattle.ld_trace.specs.declared.trace_fault.TraceFaultKind.{TraceFaultKind}
use Rattle.ld_trace.specs.declared.trace_fault.TraceFaultKind.TheVariants.{Source, Memory}
use Rattle.ld_trace.specs.Lines.{Line, Record, event_of, is_over, line_of_record, with_line}
use Rattle.ld_trace.specs.Names.{Name}
use Rattle.ld_trace.specs.Reading.{ReadsTo, StopsAt, event_at, fault_at, names_after, records_of, version_in}
use Rattle.ld_trace.specs.declared.version.Version.{Version}

-- a reader of records as the format has them: no field is trimmed, and the next read is of one record
pub record ReadsPlain {R : Type 0} (source : Reader R) : Type 0 where
  pub config : reader_config source ≡ default_config
  pub trim : reader_trim source ≡ trim.None
  pub ready : Ready source

-- a reader of records that has read nothing yet of the reader beneath
pub record IsFresh {R : Type 0} (rem : R → Option (List ℕ)) (beneath : R) (source : Reader R) : Type 0 where
  pub source_has : source_of rem source ≡ option_map strip_bom (rem beneath)
  pub state : reader_state source ≡ st.StartRecord

-- these are the first records of the bytes, and the source has what is after them: it began with the bytes, or after the first of
-- these records, with bytes that have all later ones
pub record Gives {R : Type 0} (rem : R → Option (List ℕ)) (bytes : List ℕ) (source : Reader R) (rows : List Record) : Type 0 where
  pub first : List Record
  pub later : List Record
  pub mine : List ℕ
  pub left : List ℕ
  pub rows_are : rows ≡ first ++ later
  pub records_are : records_of bytes ≡ first ++ records_of mine
  pub source_has : source_of rem source ≡ Some left
  pub reached : Reached default_config st.StartRecord (strip_bom mine) later (reader_state source) left

-- the same, if the bytes are known
abbrev pub HasGiven : {R : Type 0} → (R → Option (List ℕ)) → Option (List ℕ) → Reader R
    → List Record → Type 0
HasGiven rem known source rows = IfSome known (λ bytes. Gives rem bytes source rows)

-- the header, which names this version, and these records after it were taken, and stand for these events
pub record AreTaken (room : ℕ) (version : Version) (old : List Name) (rows : List Record) (now : List Name) (events : List Event) : Type 0 where
  pub version_is : version_in rows ≡ version
  pub count : length rows ≡ suc (length events)
  pub faultless : (i : ℕ) → i < length rows → fault_at room version old rows i ≡ None
  pub each : (i : ℕ) → slice_get events i ≡ event_at version old rows (suc i)
  pub names : now ≡ names_after version old rows
  pub below : KeysBelow (length now) events
  pub added : (more : List Name) × (now ≡ old ++ more)

-- what the loop over the records keeps: some records were taken, the first ones of the bytes
abbrev pub HasTaken : {R : Type 0} → (R → Option (List ℕ)) → Option (List ℕ) → Reader R
    → ℕ → Version → List Name → List Name → List Event → Type 0
HasTaken rem known source room version old now events =
    (rows : List Record) × HasGiven rem known source rows × AreTaken room version old rows now events

-- from one state to another the reader returned these records
abbrev pub Returns : {R : Type 0} → (R → Option (List ℕ)) → Reader R → Reader R → List Record → Type 0
Returns rem from to rows = (known : Option (List ℕ)) (before : List Record) → HasGiven rem known from before → HasGiven rem known to (before ++ rows)

-- from one state on, these were the last records
abbrev pub ReturnsLast : {R : Type 0} → (R → Option (List ℕ)) → Reader R → List Record → Type 0
ReturnsLast rem from rows = (known : Option (List ℕ)) (before : List Record) → HasGiven rem known from before
    → IfSome known (λ bytes. records_of bytes ≡ before ++ rows)

-- after any records that were taken as some events, these were taken too
abbrev pub TakesOn : (room : ℕ) (version : Version) (before now : List Name) (had events : List Event) → List Record → Type 0
TakesOn room version before now had events more = (old : List Name) (rows : List Record) → AreTaken room version old rows before had
    → AreTaken room version old (rows ++ more) now events

-- the last records were taken as a trace
pub record TakesLast {R : Type 0} (rem : R → Option (List ℕ)) (from : Reader R) (room : ℕ) (old now : List Name) (events : List Event) : Type 0 where
  pub rows : List Record
  pub version : Version
  pub are_taken : AreTaken room version old rows now events
  pub last : ReturnsLast rem from rows

-- records were taken as a trace, and one more was returned
pub record TakesBefore {R : Type 0} (rem : R → Option (List ℕ)) (from to : Reader R) (room : ℕ) (old now : List Name) (events : List Event) (more : Record) : Type 0 where
  pub rows : List Record
  pub version : Version
  pub are_taken : AreTaken room version old rows now events
  pub returns : Returns rem from to (rows ++ more ∷ [])

-- what a record says is no fault, its name is known to the table, and this is its event
pub record IsEventOf (room : ℕ) (names : List Name) (what : Result Line TraceFaultKind) (event : Event) : Type 0 where
  pub line : Line
  pub says : what ≡ Ok line
  pub fits : is_over room names line ≡ false
  pub known : with_line names line ≡ names
  pub is_event : event ≡ event_of names line

-- a record was taken as what it says
pub record TakesLine (room : ℕ) (version : Version) (old new : List Name) (before after : List Event) (r : Record) : Type 0 where
  pub line : Line
  pub says : line_of_record version r ≡ Ok line
  pub fits : is_over room old line ≡ false
  pub names : new ≡ with_line old line
  pub events : after ≡ before ++ event_of old line ∷ []

-- the known bytes are a trace that was read
abbrev pub AreRead : ℕ → Option (List ℕ) → List Name → List Name → List Event → Type 0
AreRead room known old new events = IfSome known (λ bytes. ReadsTo room old bytes new events)

-- reading the known bytes stopped at the record of this number
abbrev pub AreRefused : ℕ → Option (List ℕ) → List Name → List Name → TraceFaultKind → ℕ → Type 0
AreRefused room known old new kind number =
    IfSome known (λ bytes. StopsAt room old bytes new (record { kind = kind; at = number }))

-- the fault of an error in getting a record
abbrev pub read_fault : ErrorKind → TraceFaultKind
read_fault kind.OutOfMemory = Memory
read_fault _ = Source
