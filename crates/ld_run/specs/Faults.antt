-- The codes of refused runs [this project's own].
use Rattle.std.specs.Prelude.{ℕ, List, codes}
use Rattle.ld_run.specs.declared.condense_fault.CondenseFault.{CondenseFault}
use Rattle.ld_run.specs.declared.condense_fault.CondenseFault.TheVariants as D
use Rattle.ld_run.specs.declared.fault.RunFault.{RunFault}
use Rattle.ld_run.specs.declared.fault.RunFault.TheVariants.{BadWorkers, TooManyTraces, Unsettled, Memory, Refused, TooTangled}

-- the fault's number and name
abbrev pub run_code_of : RunFault → List ℕ
run_code_of BadWorkers = codes "N1 BadWorkers"
run_code_of TooManyTraces = codes "N2 TooManyTraces"
run_code_of Unsettled = codes "N3 Unsettled"
run_code_of Memory = codes "N4 Memory"
run_code_of (Refused trace place fault) = codes "N5 Refused"
run_code_of TooTangled = codes "M1 TooTangled"

-- the number and name of why facts aren't condensed
abbrev pub condense_code_of : CondenseFault → List ℕ
condense_code_of D.Unequal = codes "E1 Unequal"
condense_code_of D.Memory = codes "E2 Memory"
condense_code_of D.TooLong = codes "E3 TooLong"
