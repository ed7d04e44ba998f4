-- What a refused write leaves.
use Rattle.ld_text.proofs.Names.{◌≡◌, AppendsBeginning, Err, Failed, IfErr, List, Memory, Ok, OnErr, Option, Result, StopsWriting, Stuck, WriteFault, refl, ℕ}

pub StopsWriting-begun : {T : Type 0} (IsText : List ℕ → Type 0) (old new : Option (List ℕ)) (text : List ℕ) (r : Result T WriteFault) → IsText text → ¬ (r ≡ Err Memory) → OnErr r (AppendsBeginning old new text) → IfErr r (StopsWriting IsText old new)
StopsWriting-begun IsText old new text (Ok x) is_text never begun = tt
StopsWriting-begun IsText old new text (Err Failed) is_text never begun = (text, is_text, begun)
StopsWriting-begun IsText old new text (Err Stuck) is_text never begun = (text, is_text, begun)
StopsWriting-begun IsText old new text (Err Memory) is_text never begun = absurd (never refl)
