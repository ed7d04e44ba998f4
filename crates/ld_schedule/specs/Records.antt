-- What one record of a history says [the text format is this project's own].
use Rattle.std.specs.Prelude.{ℕ, ◌^◌, ◌&&◌, ◌==◌, Bool, true, false, List, [], ◌∷◌, Option, Some, None, Result, Ok, Err, codes, length, nat_le, nat_lt, not, if◌then◌else◌}
use Rattle.std.specs.List.{list_all}
use Rattle.std.specs.Str.{bytes_eq}
use Rattle.std.specs.Str.Parse.{digits_value}
use Rattle.ld_schedule.specs.declared.step.HoldMode.{HoldMode}
use Rattle.ld_schedule.specs.declared.step.HoldMode.TheVariants.{Write, Read, RecRead}
use Rattle.ld_schedule.specs.declared.step.Wait.{Wait}
use Rattle.ld_schedule.specs.declared.step.Wait.TheVariants.{Forever, Limited, Never}
use Rattle.ld_schedule.specs.declared.step.LockKind.{LockKind}
use Rattle.ld_schedule.specs.declared.step.LockKind.TheVariants.{Thread, Once}
use Rattle.ld_schedule.specs.declared.read_fault.ReadFaultKind.{ReadFaultKind}
use Rattle.ld_schedule.specs.declared.read_fault.ReadFaultKind.TheVariants.{BadRecord, BadName, BadMode}
use Rattle.ld_schedule.specs.Names.{Text, is_name}

-- a record: the bytes of each of its fields
abbrev pub Record : Type 0
Record = List Text

-- what a task does
pub data Deed : Type 0 where
  takes : Text → HoldMode → Wait → Deed
  takes_again : Text → Deed
  releases : Text → Deed
  gives : ℕ → Deed
  gets : ℕ → Deed

-- what a record says: a lock stands for something, or a task does something
pub data Line : Type 0 where
  declares : Text → LockKind → Line
  does : Text → Deed → Line

-- the mode of this word, and whether the taking waits: `w`, `r` or `rr`, after `t` for a try and after `l` for a limit of time
abbrev pub mode_of : Text → Option (HoldMode × Wait)
mode_of word = if bytes_eq word (codes "w") then Some (Write, Forever)
    else if bytes_eq word (codes "r") then Some (Read, Forever)
    else if bytes_eq word (codes "rr") then Some (RecRead, Forever)
    else if bytes_eq word (codes "tw") then Some (Write, Never)
    else if bytes_eq word (codes "tr") then Some (Read, Never)
    else if bytes_eq word (codes "trr") then Some (RecRead, Never)
    else if bytes_eq word (codes "lw") then Some (Write, Limited)
    else if bytes_eq word (codes "lr") then Some (Read, Limited)
    else if bytes_eq word (codes "lrr") then Some (RecRead, Limited)
    else None

-- whether each of these bytes is a decimal digit
abbrev pub are_digits : Text → Bool
are_digits word = list_all (λ byte. nat_le 48 byte && nat_le byte 57) word

-- whether more follows a first digit 0
abbrev pub has_leading_zero : Text → Bool
has_leading_zero [] = false
has_leading_zero (byte ∷ []) = false
has_leading_zero (byte ∷ next ∷ rest) = byte == 48

-- whether the word is a decimal number of at most 10 digits without leading zeros
abbrev pub is_decimal : Text → Bool
is_decimal word = nat_le 1 (length word) && nat_le (length word) 10 && are_digits word && not (has_leading_zero word)

-- the message of this word: a decimal number below 2^32 without leading zeros
abbrev pub message_of : Text → Option ℕ
message_of word = if is_decimal word && nat_lt (digits_value 10 word) (2 ^ 32) then Some (digits_value 10 word) else None

-- what `again` or `release` says of a lock
abbrev pub lock_deed : (Text → Deed) → Text → Result Deed ReadFaultKind
lock_deed deed lock = if is_name lock then Ok (deed lock) else Err BadName

-- what `give` or `get` says of a message
abbrev pub message_deed : (ℕ → Deed) → Option ℕ → Result Deed ReadFaultKind
message_deed deed None = Err BadRecord
message_deed deed (Some message) = Ok (deed message)

-- what a verb and a lock or a message say
abbrev pub short_deed : (verb what : Text) → Result Deed ReadFaultKind
short_deed verb what = if bytes_eq verb (codes "release") then lock_deed releases what
    else if bytes_eq verb (codes "give") then message_deed gives (message_of what)
    else if bytes_eq verb (codes "get") then message_deed gets (message_of what)
    else if bytes_eq verb (codes "again") then lock_deed takes_again what
    else Err BadRecord

-- what a task does, whose name is checked after what is wrong with the record itself
abbrev pub short_line : (task : Text) → Result Deed ReadFaultKind → Result Line ReadFaultKind
short_line task (Err fault) = Err fault
short_line task (Ok deed) = if is_name task then Ok (does task deed) else Err BadName

-- what `take` says; the names are checked before the mode
abbrev pub taking : (task lock : Text) → Option (HoldMode × Wait) → Result Line ReadFaultKind
taking task lock None = Err BadMode
taking task lock (Some (mode, wait)) = Ok (does task (takes lock mode wait))

abbrev pub take_line : (task verb lock mode : Text) → Result Line ReadFaultKind
take_line task verb lock mode = if bytes_eq verb (codes "take")
    then (if is_name task && is_name lock then taking task lock (mode_of mode) else Err BadName)
    else Err BadRecord

-- what a lock is declared to be
abbrev pub kind_of : Text → Option LockKind
kind_of word = if bytes_eq word (codes "thread") then Some Thread
    else if bytes_eq word (codes "once") then Some Once
    else None

abbrev pub declaration : Option LockKind → (lock : Text) → Result Line ReadFaultKind
declaration None lock = Err BadRecord
declaration (Some kind) lock = if is_name lock then Ok (declares lock kind) else Err BadName

-- what a record after the first says, or its fault
unfoldable pub line_of_record : Record → Result Line ReadFaultKind
line_of_record [] = Err BadRecord
line_of_record (word ∷ []) = Err BadRecord
line_of_record (word ∷ lock ∷ []) = declaration (kind_of word) lock
line_of_record (task ∷ verb ∷ what ∷ []) = short_line task (short_deed verb what)
line_of_record (task ∷ verb ∷ lock ∷ mode ∷ []) = take_line task verb lock mode
line_of_record (task ∷ verb ∷ lock ∷ mode ∷ more ∷ rest) = Err BadRecord

-- whether a record is the first one of a history
unfoldable pub is_header : Record → Bool
is_header [] = false
is_header (word ∷ []) = false
is_header (word ∷ version ∷ []) = bytes_eq word (codes "history") && bytes_eq version (codes "1")
is_header (word ∷ version ∷ more ∷ rest) = false
