-- What holds while a history is read, of the records that were taken so far. No public clause speaks of these.
use Rattle.std.specs.Prelude.{◌≡◌, ℕ, ◌<◌, ◌≤◌, ◌++◌, suc, None, List, [], Option, IfSome, length, map, Result, Ok}
use Rattle.csv.specs.declared.error.ErrorKind.{ErrorKind}
use Rattle.csv.specs.declared.error.ErrorKind.TheVariants as kind
use Rattle.csv.specs.declared.reader.Reader.{Reader}
use Rattle.ld_trace.specs.Inside.Progress.{HasGiven}
use Rattle.ld_schedule.specs.declared.limits.TheConstants.{MAX_RECORDS}
use Rattle.ld_schedule.specs.declared.read_fault.ReadFaultKind.{ReadFaultKind}
use Rattle.ld_schedule.specs.declared.read_fault.ReadFaultKind.TheVariants.{Source, Memory}
use Rattle.ld_schedule.specs.Numbers.{no_numbers}
use Rattle.ld_schedule.specs.Records.{Line, Record}
use Rattle.ld_schedule.specs.Reading.{Draft, ReadsTo, StopsAt, draft_of, fault_at, line_fault, line_steps, with_read}

-- before the first record after the header
abbrev pub nothing_read : Draft
nothing_read = record { steps = []; records = []; numbers = no_numbers }

-- the header and these records after it were taken, and stand for this
pub record AreTaken (rows : List Record) (count : ℕ) (draft : Draft) : Type 0 where
  pub counted : length rows ≡ suc count
  pub faultless : (i : ℕ) → i < length rows → fault_at rows i ≡ None
  pub is : draft ≡ draft_of rows

-- what the loop over the records keeps: some records were taken, the first ones of the bytes
abbrev pub HasTaken : {R : Type 0} → (R → Option (List ℕ)) → Option (List ℕ) → Reader R → ℕ → Draft → Type 0
HasTaken rem known source count draft = (rows : List Record) × HasGiven rem known source rows × AreTaken rows count draft

-- a record was taken as what it says
pub record TakesLine (number : ℕ) (old new : Draft) (what : Result Line ReadFaultKind) : Type 0 where
  pub faultless : line_fault old.numbers what ≡ None
  pub steps : new.steps ≡ old.steps ++ map (λ s. s.1) (line_steps old.numbers number what)
  pub records : new.records ≡ old.records ++ map (λ s. s.0) (line_steps old.numbers number what)
  pub numbers : new.numbers ≡ with_read old.numbers what

-- the known bytes are a history that was read
abbrev pub AreRead : Option (List ℕ) → Draft → Type 0
AreRead known draft = IfSome known (λ bytes. ReadsTo bytes draft)

-- reading the known bytes stopped at the record of this number
abbrev pub AreRefused : Option (List ℕ) → ReadFaultKind → ℕ → Type 0
AreRefused known kind number = IfSome known (λ bytes. StopsAt bytes kind number)

-- the fault of an error in getting a record
abbrev pub read_fault : ErrorKind → ReadFaultKind
read_fault kind.OutOfMemory = Memory
read_fault _ = Source
