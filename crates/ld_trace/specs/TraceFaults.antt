-- What is wrong with a trace, and the codes of it.
use Rattle.std.specs.Prelude.{ℕ, List, Bool, true, false, codes}
use Rattle.ld_trace.specs.declared.trace_fault.TraceFaultKind.{TraceFaultKind}
use Rattle.ld_trace.specs.declared.trace_fault.TraceFaultKind.TheVariants.{NoHeader, BadRecord, BadName, BadSub, BadMode, TooManyKeys, TooManyRecords, Source, Memory}

-- the fault's number and name [this project's own]
abbrev pub code_of : TraceFaultKind → List ℕ
code_of NoHeader = codes "T1 NoHeader"
code_of BadRecord = codes "T2 BadRecord"
code_of BadName = codes "T3 BadName"
code_of BadSub = codes "T4 BadSub"
code_of BadMode = codes "T5 BadMode"
code_of TooManyKeys = codes "T6 TooManyKeys"
code_of TooManyRecords = codes "T7 TooManyRecords"
code_of Source = codes "T8 Source"
code_of Memory = codes "T9 Memory"

-- whether the fault is one of the text, and not of the reader underneath or of memory
abbrev pub is_of_text : TraceFaultKind → Bool
is_of_text NoHeader = true
is_of_text BadRecord = true
is_of_text BadName = true
is_of_text BadSub = true
is_of_text BadMode = true
is_of_text TooManyKeys = true
is_of_text TooManyRecords = true
is_of_text Source = false
is_of_text Memory = false
