-- What a writer holds after a text was handed to it. This project's own.
use Rattle.std.specs.Prelude.{◌++◌, ◌≡◌, IfSome, List, Option, Some, ℕ}
use Rattle.ld_text.specs.Names.{Appends}

-- known bytes grew by a beginning of the text
abbrev pub AppendsBeginning : Option (List ℕ) → Option (List ℕ) → List ℕ → Type 0
AppendsBeginning old new text =
    IfSome old (λ bytes. (begun rest : List ℕ) × (text ≡ begun ++ rest) × (new ≡ Some (bytes ++ begun)))

-- a text was put after what a page held, and a part of all that was written out
pub record PutsBehind (old new : Option (List ℕ)) (page_old page_new text : List ℕ) : Type 0 where
  pub part : List ℕ
  pub wrote : Appends old new part
  pub split : page_old ++ text ≡ part ++ page_new
