-- Known lines that are taken one after the other, and what a trace is read on by. No public clause speaks of these.
use Rattle.std.specs.Prelude.{◌≡◌, ◌≤◌, ◌<◌, ◌+◌, ◌⊎◌, ℕ, List, [], ◌∷◌, Option, Some, ◌++◌, All, length, take, true}
use Rattle.std.specs.Fmt.{option_append}
use Rattle.std.specs.Io.KnownBytes.{Consumes}
use Rattle.ld_trace.specs.declared.event.Event.{Event}
use Rattle.ld_trace.specs.declared.known_lines.KnownLine.{KnownLine}
use Rattle.ld_trace.specs.declared.raw_trace.TheConstants.{MAX_EVENTS}
use Rattle.ld_trace.specs.declared.version.Version.{Version}
use Rattle.ld_trace.specs.Events.{KeyIsBelow}
use Rattle.ld_trace.specs.KnownLines.{has_event}
use Rattle.ld_trace.specs.Names.{AreNumbered, Name, Table}
use Rattle.ld_trace.specs.Pieces.{AreLines}
use Rattle.ld_trace.specs.Reading.{ReadsTo}
use Rattle.ld_trace.specs.Writing.{event_text}

-- the line is the text of its event, whose key these names have
abbrev pub IsKnownLine : List Name → KnownLine → Type 0
IsKnownLine names known = KeyIsBelow (length names) known.event × (known.text.items ≡ event_text names known.event)

-- with these bytes after them, whole lines that were read as the one trace are whole lines that are read as the other
pub record ReadsOn (version : Version) (room : ℕ) (names new : List Name) (whole more : List Event) (bytes : List ℕ) : Type 0 where
  pub added : (added : List Name) × (new ≡ names ++ added)
  pub lines : (done : List ℕ) → AreLines version done → AreLines version (done ++ bytes)
  pub reads : (old : List Name) (done : List ℕ) → AreLines version done → ReadsTo room old done names whole → ReadsTo room old (done ++ bytes) new more

-- one more event, whose key is one of the names that were seen, or the next one
abbrev pub SeenAfter : ℕ → Event → ℕ → Type 0
SeenAfter seen event after = ((after ≡ seen) × KeyIsBelow seen event) ⊎ ((after ≡ seen + 1) × ¬ (KeyIsBelow seen event) × KeyIsBelow after event)

-- the version has the event, and there is room for it after the others
abbrev pub TakesEvent : Version → Event → (before after : ℕ) → (events more : List Event) → Type 0
TakesEvent version event before after events more = (has_event version event ≡ true) × (length events < MAX_EVENTS) × SeenAfter before event after × (more ≡ events ++ event ∷ [])

-- with some of the first names of any table that has these lines, a trace is read on by the bytes, which may need more of its names
abbrev pub TakesKnown : Version → List KnownLine → (before after : ℕ) → (events more : List Event) → List ℕ → Type 0
TakesKnown version lines before after events more bytes = (table : Table) → AreNumbered table → All (IsKnownLine table.names) lines → before ≤ length table.names
    → (before ≤ after) × (after ≤ length table.names) × ReadsOn version table.room (take before table.names) (take after table.names) events more bytes

-- the same with some of the bytes that a source had, if they are known, which has those after them by now
pub record Advances (version : Version) (room : ℕ) (names new : List Name) (whole more : List Event) (before after : Option (List ℕ)) : Type 0 where
  pub taken : List ℕ
  pub consumes : Consumes before after taken
  pub on : ReadsOn version room names new whole more taken

-- what there is to read: the bytes of a block, and what the source has
abbrev pub left_of : List ℕ → Option (List ℕ) → Option (List ℕ)
left_of block rest = option_append (Some block) rest
