-- The one line that says why the program refused. This project's own.
use Rattle.std.specs.Prelude.{◌++◌, Err, List, Ok, Option, Result, codes, decimal, ℕ}
use Rattle.lockdep.specs.Names.{Appends, AppendsBeginning, WriteFault, condense_code_of, run_code_of}
use Rattle.ld_trace.specs.TraceFaults.{code_of as trace_code_of}
use Rattle.ld_schedule.specs.HistoryCodes.{record_of, code_of as history_code_of}
use Rattle.ld_task.specs.Faults.{code_of as step_code_of}
use Rattle.lockdep.specs.declared.refusal.Refusal.{Refusal}
use Rattle.lockdep.specs.declared.refusal.Refusal.TheVariants.{BadCommandLine, CannotOpen, Output, Memory, Reading, Step, History, Run, Condensing}

-- that of a record of a trace: the trace's file, the record's number and the fault's code
abbrev pub record_line : (file : List ℕ) (at : ℕ) (code : List ℕ) → List ℕ
record_line file at code = codes "lockdep: " ++ (file ++ (codes ": record " ++ (decimal at ++ (codes ": " ++ (code ++ codes "\n")))))

-- that of each refusal
abbrev pub fault_line : Refusal → List ℕ
fault_line BadCommandLine = codes "lockdep: P1 BadCommandLine\n"
fault_line (CannotOpen file) = codes "lockdep: " ++ (file.now ++ codes ": P2 CannotOpen\n")
fault_line Output = codes "lockdep: P3 Output\n"
fault_line Memory = codes "lockdep: P4 Memory\n"
fault_line (Reading file fault) = record_line file.now fault.at (trace_code_of fault.kind)
fault_line (Step file at fault) = record_line file.now at (step_code_of fault)
fault_line (History file refusal) = record_line file.now (record_of refusal) (history_code_of refusal)
fault_line (Run fault) = codes "lockdep: " ++ (run_code_of fault ++ codes "\n")
fault_line (Condensing fault) = codes "lockdep: " ++ (condense_code_of fault ++ codes "\n")

-- how the line of a refusal was written, by the known bytes before and after: whole, or a beginning of it
abbrev pub IsTold : (old new : Option (List ℕ)) → Refusal → Result ℕ WriteFault → Type 0
IsTold old new refusal (Ok status) = Appends old new (fault_line refusal)
IsTold old new refusal (Err fault) = AppendsBeginning old new (fault_line refusal)
