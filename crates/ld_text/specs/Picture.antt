-- The facts as a picture: a graph in the language DOT [this project's own; the usage characters are those of "State"].
use Rattle.std.specs.Prelude.{[], ◌++◌, ◌==◌, ◌∷◌, ◌≡◌, ◌⊎◌, Any, Bool, List, codes, decimal, false, flat_map, if◌then◌else◌, true, ℕ}
use Rattle.ld_text.specs.Names.{AreFound, Arrow, DependenciesOf, Event, Fact, FoundParts, InInversion, Irq, IsDouble, Name, OnCircle, TracesHave, arrow, irq_word, kinds, name_at, states}
use Rattle.ld_text.specs.Groups.{InSequence, InTurn}
use Rattle.ld_text.specs.Order.{IsKeyOrder}
use Rattle.ld_text.specs.Report.{IsUsageCharacter, forms}
use Rattle.ld_text.specs.Words.{kind_text}

-- Names. In a text between double quotes, a double quote and a backslash come after a backslash.

abbrev pub escaped : ℕ → List ℕ
escaped byte = if byte == 34 then codes "\\\"" else (if byte == 92 then codes "\\\\" else byte ∷ [])

-- a key as it stands between double quotes
abbrev pub quoted_key : Name → List ℕ
quoted_key name = flat_map escaped name.0 ++ (codes "/" ++ decimal name.1)

-- What is part of a finding.

-- a dependency on a circle or in the walk of an inversion
abbrev pub IsFoundArrow : (Fact → Type 0) → Arrow → Type 0
IsFoundArrow Has d = OnCircle Has d ⊎ InInversion Has d

-- such a dependency leads from the one key to the other or back
abbrev pub AreJoined : (Fact → Type 0) → (key other : ℕ) → Type 0
AreJoined Has key other =
    Any (λ kind. IsFoundArrow Has (arrow key other kind) ⊎ IsFoundArrow Has (arrow other key kind)) kinds

-- a double, or a key that such a dependency leads from or to
abbrev pub IsFoundKey : (Fact → Type 0) → (keys : List ℕ) → (key : ℕ) → Type 0
IsFoundKey Has keys key = Any (λ irq. IsDouble Has irq key) states ⊎ Any (AreJoined Has key) keys

-- Lines.

-- what is part of a finding is shown in red; the rest in black, or not at all where only findings are wanted
abbrev pub ShowsRest : (only : Bool) → (Bool → List ℕ → Type 0) → List ℕ → Type 0
ShowsRest true Shows text = text ≡ []
ShowsRest false Shows text = Shows false text

abbrev pub ShowsColoured : (only : Bool) → (Found : Type 0) → (Bool → List ℕ → Type 0) → List ℕ → Type 0
ShowsColoured only Found Shows text = (Found × Shows true text) ⊎ (¬ Found × ShowsRest only Shows text)

-- how a line ends
abbrev pub end_text : (red : Bool) → List ℕ
end_text true = codes ", color=red, fontcolor=red];\n"
end_text false = codes "];\n"

-- a key, with its usage characters
abbrev pub node_line : List Name → (key : ℕ) → (characters : List ℕ) → (red : Bool) → List ℕ
node_line names key characters red = let name = quoted_key (name_at names key) in
    codes "  \"" ++ (name ++ (codes "\" [label=\"" ++ (name ++ (codes " {" ++ (characters ++ (codes "}\"" ++ end_text red))))))

pub record IsNode (Has : Fact → Type 0) (names : List Name) (key : ℕ) (red : Bool) (line : List ℕ) : Type 0 where
  pub characters : List ℕ
  pub each : InTurn (λ form. IsUsageCharacter Has key form.0 form.1) forms characters
  pub line_is : line ≡ node_line names key characters red

-- an arrow from a key to a key, with its label
abbrev pub arrow_text : List Name → (from to : ℕ) → (label : List ℕ) → List ℕ
arrow_text names from to label = codes "  \"" ++ (quoted_key (name_at names from) ++ (codes "\" -> \""
    ++ (quoted_key (name_at names to) ++ (codes "\" [label=\"" ++ (label ++ codes "\"")))))

-- a dependency, with its kind
abbrev pub edge_line : List Name → Arrow → (red : Bool) → List ℕ
edge_line names d red = arrow_text names d.start d.end (kind_text d.kind) ++ end_text red

-- a double or an inversion: from the key that is used with the state enabled to the key that is used in it
abbrev pub link_line : List Name → Irq → (from to : ℕ) → List ℕ
link_line names irq from to = arrow_text names from to (irq_word irq) ++ codes ", style=dashed, color=red, fontcolor=red];\n"

-- What is shown.

abbrev pub ShowsKey : (Fact → Type 0) → List Name → (keys : List ℕ) → (only : Bool) → (key : ℕ) → List ℕ → Type 0
ShowsKey Has names keys only key = ShowsColoured only (IsFoundKey Has keys key) (IsNode Has names key)

abbrev pub ShowsEdge : (Fact → Type 0) → List Name → (only : Bool) → Arrow → List ℕ → Type 0
ShowsEdge Has names only d text =
    (DependenciesOf Has d × ShowsColoured only (IsFoundArrow Has d) (λ red line. line ≡ edge_line names d red) text)
    ⊎ (¬ DependenciesOf Has d × (text ≡ []))

-- the lines of doubles and of inversions
abbrev pub double_links : List Name → List (Irq × ℕ) → List ℕ
double_links names = flat_map (λ x. link_line names x.0 x.1 x.1)

abbrev pub inversion_links : List Name → List (Irq × (ℕ × ℕ)) → List ℕ
inversion_links names = flat_map (λ x. link_line names x.0 x.1.1 x.1.0)

-- the text is a picture of these facts, for the keys with these names: the keys, the dependencies, the doubles and the
-- inversions, each in the report's order
pub record IsPicture (Has : Fact → Type 0) (only : Bool) (names : List Name) (text : List ℕ) : Type 0 where
  pub keys : List ℕ
  pub keys_are : IsKeyOrder names keys
  pub found : FoundParts
  pub found_are : AreFound Has keys found
  pub text_is : InSequence (
      (λ part. part ≡ codes "digraph lockdep {\n  node [shape=box];\n")
      ∷ InTurn (ShowsKey Has names keys only) keys
      ∷ InTurn (λ from. InTurn (λ to. InTurn (λ kind. ShowsEdge Has names only (arrow from to kind)) kinds) keys) keys
      ∷ (λ part. part ≡ double_links names found.doubles)
      ∷ (λ part. part ≡ inversion_links names found.inversions)
      ∷ (λ part. part ≡ codes "}\n")
      ∷ []) text

-- the text is the picture of all these traces together
abbrev pub IsPictureOf : (only : Bool) → List (List Event) → List Name → List ℕ → Type 0
IsPictureOf only traces names text = IsPicture (TracesHave traces) only names text
