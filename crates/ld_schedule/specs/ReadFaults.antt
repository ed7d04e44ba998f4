-- What is wrong with the text of a history, and the codes of it.
use Rattle.std.specs.Prelude.{ℕ, List, Bool, true, false, codes}
use Rattle.ld_schedule.specs.declared.read_fault.ReadFaultKind.{ReadFaultKind}
use Rattle.ld_schedule.specs.declared.read_fault.ReadFaultKind.TheVariants.{NoHeader, BadRecord, BadName, BadMode, TooManyNames, TooManyRecords, Source, Memory}

-- the fault's number and name [this project's own]
abbrev pub code_of : ReadFaultKind → List ℕ
code_of NoHeader = codes "H1 NoHeader"
code_of BadRecord = codes "H2 BadRecord"
code_of BadName = codes "H3 BadName"
code_of BadMode = codes "H4 BadMode"
code_of TooManyNames = codes "H5 TooManyNames"
code_of TooManyRecords = codes "H6 TooManyRecords"
code_of Source = codes "H7 Source"
code_of Memory = codes "H8 Memory"

-- whether the fault is one of the text, and not of the reader underneath or of memory
abbrev pub is_of_text : ReadFaultKind → Bool
is_of_text Source = false
is_of_text Memory = false
is_of_text _ = true
