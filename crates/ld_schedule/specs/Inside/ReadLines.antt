-- The lines that the reader passes on, whose names are borrowed from the record's own bytes. No public clause speaks of
-- these.
use Rattle.std.specs.Prelude.{◌≡◌, false, true, ℕ, Result, Ok, Err}
use Rattle.ld_schedule.specs.declared.line.Line.{Line as ReadLine}
use Rattle.ld_schedule.specs.declared.line.Line.TheVariants.{Declares, Does}
use Rattle.ld_schedule.specs.declared.line.Deed.{Deed as ReadDeed}
use Rattle.ld_schedule.specs.declared.line.Deed.TheVariants.{Takes, TakesAgain, Releases, Gives, Gets}
use Rattle.ld_schedule.specs.declared.line.LineName.{LineName}
use Rattle.ld_schedule.specs.declared.read_fault.ReadFaultKind.{ReadFaultKind}
use Rattle.ld_schedule.specs.declared.read_fault.ReadFaultKind.TheVariants.{BadName}
use Rattle.ld_schedule.specs.Names.{Text, is_name}
use Rattle.ld_schedule.specs.Records.{Deed, Line, takes, takes_again, releases, gives, gets, declares, does}

-- what it says that a task does
abbrev pub deed_read : ReadDeed → Deed
deed_read (Takes name mode wait) = takes name.text.now mode wait
deed_read (TakesAgain name) = takes_again name.text.now
deed_read (Releases name) = releases name.text.now
deed_read (Gives message) = gives message
deed_read (Gets message) = gets message

-- the line that it is
abbrev pub line_read : ReadLine → Line
line_read (Declares name kind) = declares name.text.now kind
line_read (Does name deed) = does name.text.now (deed_read deed)

-- a result says this
abbrev pub Says : Result Line ReadFaultKind → Result ReadLine ReadFaultKind → Type 0
Says what (Ok line) = what ≡ Ok (line_read line)
Says what (Err fault) = what ≡ Err fault

abbrev pub SaysDeed : Result Deed ReadFaultKind → Result ReadDeed ReadFaultKind → Type 0
SaysDeed what (Ok deed) = what ≡ Ok (deed_read deed)
SaysDeed what (Err fault) = what ≡ Err fault

-- a field is a name, or it isn't
abbrev pub SaysName : Text → Result LineName ReadFaultKind → Type 0
SaysName text (Ok name) = (is_name text ≡ true) × (name.text.now ≡ text)
SaysName text (Err fault) = (is_name text ≡ false) × (fault ≡ BadName)
