-- The codes of what is wrong with a key.
use Rattle.std.specs.Prelude.{ℕ, List, codes}
use Rattle.ld_trace.specs.declared.key_fault.KeyFault.{KeyFault}
use Rattle.ld_trace.specs.declared.key_fault.KeyFault.TheVariants.{BadName, BadSub, Full, Memory}

-- the fault's number and name [this project's own]
abbrev pub code_of : KeyFault → List ℕ
code_of BadName = codes "K1 BadName"
code_of BadSub = codes "K2 BadSub"
code_of Full = codes "K3 Full"
code_of Memory = codes "K4 Memory"
