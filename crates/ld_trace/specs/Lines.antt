-- What one record of a trace says [the text format is this project's own].
use Rattle.std.specs.Prelude.{ℕ, ◌-◌, ◌&&◌, Bool, false, List, [], ◌∷◌, Option, Some, None, Result, Ok, Err, codes, nat_le, if◌then◌else◌}
use Rattle.std.specs.Str.{bytes_eq}
use Rattle.ld_trace.specs.declared.event.Event.{Event}
use Rattle.ld_trace.specs.declared.event.Event.TheVariants.{Acquire, Release, Enter, Leave, TurnOn, TurnOff}
use Rattle.ld_trace.specs.declared.event.Irq.{Irq}
use Rattle.ld_trace.specs.declared.event.Irq.TheVariants.{Hard, Soft}
use Rattle.ld_trace.specs.declared.event.Mode.{Mode}
use Rattle.ld_trace.specs.declared.event.Mode.TheVariants.{Write, Read, RecRead, TryWrite, TryRead, TryRecRead}
use Rattle.ld_trace.specs.declared.trace_fault.TraceFaultKind.{TraceFaultKind}
use Rattle.ld_trace.specs.declared.trace_fault.TraceFaultKind.TheVariants.{BadRecord, BadName, BadSub, BadMode}
use Rattle.ld_trace.specs.declared.version.Version.{Version}
use Rattle.ld_trace.specs.declared.version.Version.TheVariants.{One, Two}
use Rattle.ld_trace.specs.Names.{Name, is_class_name, is_one_too_many, place_of, with_name}

-- a record: the bytes of each of its fields
abbrev pub Record : Type 0
Record = List (List ℕ)

-- what a record says
pub data Line : Type 0 where
  takes : Name → Mode → Line
  gives_back : Name → Line
  enters : Irq → Line
  leaves : Line
  turns_on : Irq → Line
  turns_off : Irq → Line

-- the mode of a try: `tw`, `tr` or `trr`, which version 1 doesn't have
abbrev pub try_mode_of : Version → List ℕ → Option Mode
try_mode_of One word = None
try_mode_of Two word = if bytes_eq word (codes "tw") then Some TryWrite
    else if bytes_eq word (codes "tr") then Some TryRead
    else if bytes_eq word (codes "trr") then Some TryRecRead
    else None

-- the mode of this word: `w`, `r` or `rr`, or that of a try
abbrev pub mode_of : Version → List ℕ → Option Mode
mode_of version word = if bytes_eq word (codes "w") then Some Write
    else if bytes_eq word (codes "r") then Some Read
    else if bytes_eq word (codes "rr") then Some RecRead
    else try_mode_of version word

-- the state of these words: `hardirq` or `softirq`
abbrev pub irq_of : List ℕ → Option Irq
irq_of word = if bytes_eq word (codes "hardirq") then Some Hard
    else if bytes_eq word (codes "softirq") then Some Soft
    else None

-- the subclass of this field: one digit, `0` to `7`
abbrev pub sub_of : List ℕ → Option ℕ
sub_of [] = None
sub_of (digit ∷ []) = if nat_le 48 digit && nat_le digit 55 then Some (digit - 48) else None
sub_of (digit ∷ more ∷ rest) = None

-- the name of a class's name and a subclass, of which the class's name is checked first
abbrev pub name_of_fields : List ℕ → Option ℕ → Result Name TraceFaultKind
name_of_fields class None = if is_class_name class then Err BadSub else Err BadName
name_of_fields class (Some sub) = if is_class_name class then Ok (class, sub) else Err BadName

-- what `leave` says
abbrev pub leave_line : List ℕ → Result Line TraceFaultKind
leave_line verb = if bytes_eq verb (codes "leave") then Ok leaves else Err BadRecord

-- what a verb and a state say
abbrev pub irq_line : List ℕ → Option Irq → Result Line TraceFaultKind
irq_line verb None = Err BadRecord
irq_line verb (Some irq) = if bytes_eq verb (codes "enter") then Ok (enters irq)
    else if bytes_eq verb (codes "on") then Ok (turns_on irq)
    else if bytes_eq verb (codes "off") then Ok (turns_off irq)
    else Err BadRecord

-- what `rel` and a name say
abbrev pub giving_back : Result Name TraceFaultKind → Result Line TraceFaultKind
giving_back (Err fault) = Err fault
giving_back (Ok name) = Ok (gives_back name)

abbrev pub release_line : List ℕ → Result Name TraceFaultKind → Result Line TraceFaultKind
release_line verb name = if bytes_eq verb (codes "rel") then giving_back name else Err BadRecord

-- what `acq`, a name and a mode say
abbrev pub taking : Result Name TraceFaultKind → Option Mode → Result Line TraceFaultKind
taking (Err fault) mode = Err fault
taking (Ok name) None = Err BadMode
taking (Ok name) (Some mode) = Ok (takes name mode)

abbrev pub acquire_line : List ℕ → Result Name TraceFaultKind → Option Mode
    → Result Line TraceFaultKind
acquire_line verb name mode =
    if bytes_eq verb (codes "acq") then taking name mode else Err BadRecord

-- what a record of a trace of this version says, or its fault
unfoldable pub line_of_record : Version → Record → Result Line TraceFaultKind
line_of_record version [] = Err BadRecord
line_of_record version (verb ∷ []) = leave_line verb
line_of_record version (verb ∷ irq ∷ []) = irq_line verb (irq_of irq)
line_of_record version (verb ∷ class ∷ sub ∷ []) = release_line verb (name_of_fields class (sub_of sub))
line_of_record version (verb ∷ class ∷ sub ∷ mode ∷ []) =
    acquire_line verb (name_of_fields class (sub_of sub)) (mode_of version mode)
line_of_record version (verb ∷ class ∷ sub ∷ mode ∷ more ∷ rest) = Err BadRecord

-- the version of this word: `1` or `2`
abbrev pub version_named : List ℕ → Option Version
version_named word = if bytes_eq word (codes "1") then Some One
    else if bytes_eq word (codes "2") then Some Two
    else None

-- the version that a record names, if it is a header
unfoldable pub version_of : Record → Option Version
version_of [] = None
version_of (word ∷ []) = None
version_of (word ∷ version ∷ []) =
    if bytes_eq word (codes "lockdep") then version_named version else None
version_of (word ∷ version ∷ more ∷ rest) = None

-- the names with that of a line among them
abbrev pub with_line : List Name → Line → List Name
with_line names (takes name mode) = with_name names name
with_line names (gives_back name) = with_name names name
with_line names (enters irq) = names
with_line names leaves = names
with_line names (turns_on irq) = names
with_line names (turns_off irq) = names

-- whether the line's name would be one more than there is room for
abbrev pub is_over : ℕ → List Name → Line → Bool
is_over room names (takes name mode) = is_one_too_many room names name
is_over room names (gives_back name) = is_one_too_many room names name
is_over room names (enters irq) = false
is_over room names leaves = false
is_over room names (turns_on irq) = false
is_over room names (turns_off irq) = false

-- the event that a line stands for: a key's number is the place of its name
abbrev pub event_of : List Name → Line → Event
event_of names (takes name mode) = Acquire mode (place_of names name)
event_of names (gives_back name) = Release (place_of names name)
event_of names (enters irq) = Enter irq
event_of names leaves = Leave
event_of names (turns_on irq) = TurnOn irq
event_of names (turns_off irq) = TurnOff irq
