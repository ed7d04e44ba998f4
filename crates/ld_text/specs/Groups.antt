-- Groups: one text, or one list of other things, after the other [this project's own].
use Rattle.std.specs.Prelude.{[], ◌++◌, ◌∷◌, ◌≡◌, List, map}

-- the text is one text after the other, each as said of it
unfoldable pub InSequence : {A : Type 0} → List (List A → Type 0) → List A → Type 0
InSequence [] text = text ≡ []
InSequence (P ∷ Ps) text = (first rest : _) × P first × InSequence Ps rest × (text ≡ first ++ rest)

-- the text has what R allows for each of the list, in the list's order
abbrev pub InTurn : {X A : Type 0} → (X → List A → Type 0) → List X → List A → Type 0
InTurn R xs = InSequence (map R xs)

-- the text grew by a part that is as Q says
pub record GrowsBy {A : Type 0} (Q : List A → Type 0) (old new : List A) : Type 0 where
  pub part : List A
  pub shows : Q part
  pub grew : new ≡ old ++ part
