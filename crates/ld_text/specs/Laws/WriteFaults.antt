-- What a refused write leaves, of texts of which the same is said.
use Rattle.std.proofs.Common.{ℕ, List, Option}
use Rattle.ld_text.specs.WriteFaults.{StopsWriting}
use Rattle.ld_text.specs.declared.write_fault.WriteFault.{WriteFault}
use Rattle.ld_text.specs.declared.write_fault.WriteFault.TheVariants.{Failed, Stuck, Memory}

pub StopsWriting-same : (A B : List ℕ → Type 0) → ((text : List ℕ) → A text → B text) → (old new : Option (List ℕ)) (fault : WriteFault) → StopsWriting A old new fault → StopsWriting B old new fault
StopsWriting-same A B same old new Failed (text, is_text, begun) = (text, same text is_text, begun)
StopsWriting-same A B same old new Stuck (text, is_text, begun) = (text, same text is_text, begun)
StopsWriting-same A B same old new Memory kept = kept
