-- What the bytes of a history stand for, and the first fault of those that stand for nothing.
use Rattle.std.specs.Prelude.{◌≡◌, ℕ, zero, suc, ◌<◌, ◌++◌, ◌||◌, true, List, [], ◌∷◌, map, take, slice_get, nat_le, nat_lt, length, Option, Some, None, Result, Ok, Err, if◌then◌else◌}
use Rattle.ld_trace.specs.Reading.{records_of}
use Rattle.ld_schedule.specs.declared.limits.TheConstants.{MAX_RECORDS}
use Rattle.ld_schedule.specs.declared.read_fault.ReadFaultKind.{ReadFaultKind}
use Rattle.ld_schedule.specs.declared.read_fault.ReadFaultKind.TheVariants.{BadRecord, NoHeader, TooManyNames, TooManyRecords}
use Rattle.ld_schedule.specs.declared.step.Step.{Step}
use Rattle.ld_schedule.specs.Names.{is_known, is_one_too_many}
use Rattle.ld_schedule.specs.Numbers.{Numbers, is_over, no_numbers, step_of, with_line}
use Rattle.ld_schedule.specs.ReadFaults.{is_of_text}
use Rattle.ld_schedule.specs.Records.{Line, Record, declares, does, is_header, line_of_record}

-- the numbers with what a record names
abbrev pub with_read : Numbers → Result Line ReadFaultKind → Numbers
with_read numbers (Ok line) = with_line numbers line
with_read numbers (Err fault) = numbers

-- the numbers after these records
unfoldable pub numbers_after : Numbers → List Record → Numbers
numbers_after numbers [] = numbers
numbers_after numbers (r ∷ rs) = numbers_after (with_read numbers (line_of_record r)) rs

-- the numbers before the record at a place
abbrev pub numbers_before : List Record → ℕ → Numbers
numbers_before rows place = numbers_after no_numbers (take place rows)

-- the step of the record with this number, if it has one
abbrev pub line_steps : Numbers → (number : ℕ) → Result Line ReadFaultKind → List (ℕ × Step)
line_steps numbers number (Err fault) = []
line_steps numbers number (Ok (declares lock kind)) = []
line_steps numbers number (Ok (does task deed)) = (number, step_of numbers task deed) ∷ []

-- the steps of these records, each with the number of its record; the first record has this number
unfoldable pub steps_from : Numbers → (number : ℕ) → List Record → List (ℕ × Step)
steps_from numbers number [] = []
steps_from numbers number (r ∷ rs) =
    line_steps numbers number (line_of_record r) ++ steps_from (with_read numbers (line_of_record r)) (suc number) rs

-- the steps of a history of these records, each with the number of its record, counted from 1 with the header
abbrev pub steps_of : List Record → List (ℕ × Step)
steps_of rows = steps_from no_numbers 1 rows

-- the fault of the first record, if it has one: a history without records has the same
abbrev pub header_fault : Option Record → Option ReadFaultKind
header_fault None = Some NoHeader
header_fault (Some r) = if is_header r then None else Some NoHeader

-- the fault of what a record says: a lock is declared before it is named
abbrev pub line_fault : Numbers → Result Line ReadFaultKind → Option ReadFaultKind
line_fault numbers (Err fault) = Some fault
line_fault numbers (Ok (declares lock kind)) = if is_known numbers.locks lock then Some BadRecord
    else if is_one_too_many numbers.locks lock then Some TooManyNames else None
line_fault numbers (Ok (does task deed)) =
    if is_one_too_many numbers.tasks task || is_over numbers deed then Some TooManyNames else None

-- the fault of a record after the first, if there is one at this place
abbrev pub record_fault : Numbers → ℕ → Option Record → Option ReadFaultKind
record_fault numbers place None = None
record_fault numbers place (Some r) =
    if nat_lt MAX_RECORDS place then Some TooManyRecords else line_fault numbers (line_of_record r)

-- the fault of the record at a place, if it has one
unfoldable pub fault_at : List Record → ℕ → Option ReadFaultKind
fault_at rows zero = header_fault (slice_get rows 0)
fault_at rows (suc i) = record_fault (numbers_before rows (suc i)) (suc i) (slice_get rows (suc i))

-- what was read: the steps, the number of each one's record, and the numbers
pub record Draft : Type 0 where
  pub steps : List Step
  pub records : List ℕ
  pub numbers : Numbers

-- what these records stand for
abbrev pub draft_of : List Record → Draft
draft_of rows = record {
  steps = map (λ s. s.1) (steps_of rows);
  records = map (λ s. s.0) (steps_of rows);
  numbers = numbers_after no_numbers rows;
}

-- these bytes are the text of a history without fault, and stand for this
pub record ReadsTo (bytes : List ℕ) (draft : Draft) : Type 0 where
  pub faultless : (place : ℕ) → fault_at (records_of bytes) place ≡ None
  pub is : draft ≡ draft_of (records_of bytes)

-- reading these bytes stopped with this fault: the record with this number, counted from 1, is the first with a fault of
-- the text, or the reader or memory failed there
pub record StopsAt (bytes : List ℕ) (kind : ReadFaultKind) (number : ℕ) : Type 0 where
  pub place : ℕ
  pub number_is : number ≡ suc place
  pub here : is_of_text kind ≡ true → fault_at (records_of bytes) place ≡ Some kind
  pub before : (i : ℕ) → i < place → fault_at (records_of bytes) i ≡ None
