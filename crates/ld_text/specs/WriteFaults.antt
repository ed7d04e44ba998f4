-- The codes of refused writes, and what they leave [this project's own].
use Rattle.std.specs.Prelude.{List, Option, codes, ℕ}
use Rattle.ld_text.specs.Names.{Keeps}
use Rattle.ld_text.specs.Output.{AppendsBeginning}
use Rattle.ld_text.specs.declared.write_fault.WriteFault.{WriteFault}
use Rattle.ld_text.specs.declared.write_fault.WriteFault.TheVariants.{Failed, Stuck, Memory}

-- the number and name of a refused write
abbrev pub write_code_of : WriteFault → List ℕ
write_code_of Failed = codes "O1 Failed"
write_code_of Stuck = codes "O2 Stuck"
write_code_of Memory = codes "O3 Memory"

-- writing a text that is as said stopped so: a beginning of one was written, or nothing, where memory was refused
abbrev pub StopsWriting : (List ℕ → Type 0) → Option (List ℕ) → Option (List ℕ) → WriteFault → Type 0
StopsWriting IsText old new Failed = (text : List ℕ) × IsText text × AppendsBeginning old new text
StopsWriting IsText old new Stuck = (text : List ℕ) × IsText text × AppendsBeginning old new text
StopsWriting IsText old new Memory = Keeps old new
