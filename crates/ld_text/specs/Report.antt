-- The report of facts: its lines and their order [this project's own; the usage characters are those of "State"].
use Rattle.std.specs.Prelude.{[], ◌++◌, ◌↔◌, ◌∷◌, ◌≡◌, ◌⊎◌, Bool, Contains, IsTrue, List, codes, decimal, false, flat_map, length, sum_by, true, ℕ}
use Rattle.ld_text.specs.Names.{AreFound, Arrow, DependenciesOf, Enabled, Event, Fact, FoundParts, Irq, IsClean, IsNumberOf, IsShortestCircle, Less, Marked, Name, OnCircle, TracesHave, UsedIn, irq_word, name_at, states}
use Rattle.ld_text.specs.Words.{key_text, kind_text}
use Rattle.ld_text.specs.Order.{IsKeyOrder, name_cmp}
use Rattle.ld_text.specs.Groups.{InSequence, InTurn}

-- The totals.

-- a word and its number
abbrev pub total_line : List ℕ → ℕ → List ℕ
total_line word number = word ++ codes " " ++ decimal number ++ codes "\n"

-- `clean yes` or `clean no`
abbrev pub clean_line : Bool → List ℕ
clean_line true = codes "clean yes\n"
clean_line false = codes "clean no\n"

-- the five lines that every report begins with, for this number of traces, events and keys
pub record AreTotals (Has : Fact → Type 0) (traces events keys : ℕ) (text : List ℕ) : Type 0 where
  pub dependencies : ℕ
  pub dependencies_are : IsNumberOf (DependenciesOf Has) dependencies
  pub clean : Bool
  pub clean_is : IsTrue clean ↔ IsClean Has
  pub text_is : text ≡ total_line (codes "traces") traces ++ total_line (codes "events") events
      ++ total_line (codes "keys") keys ++ total_line (codes "dependencies") dependencies ++ clean_line clean

-- Usage.

-- the four columns of a usage line: each state, not read and read
abbrev pub forms : List (Irq × Bool)
forms = flat_map (λ irq. (irq, false) ∷ (irq, true) ∷ []) states

-- what a character says of one state and form: whether the key was ever used with it enabled, and in its context
abbrev pub usage_character : (enabled used_in : Bool) → List ℕ
usage_character true true = codes "?"
usage_character false true = codes "-"
usage_character true false = codes "+"
usage_character false false = codes "."

-- the character is that of the key with these facts, in this state and form
pub record IsUsageCharacter (Has : Fact → Type 0) (key : ℕ) (irq : Irq) (read : Bool) (character : List ℕ) : Type 0 where
  pub enabled : Bool
  pub used_in : Bool
  pub enabled_is : IsTrue enabled ↔ Has (Marked key (Enabled irq read))
  pub used_in_is : IsTrue used_in ↔ Has (Marked key (UsedIn irq read))
  pub character_is : character ≡ usage_character enabled used_in

-- a key's line, with its four characters
abbrev pub usage_line : Name → (characters : List ℕ) → List ℕ
usage_line name characters = codes "usage " ++ key_text name ++ codes " {" ++ characters ++ codes "}\n"

-- the line is that of the key with these facts
pub record IsUsageLine (Has : Fact → Type 0) (names : List Name) (key : ℕ) (line : List ℕ) : Type 0 where
  pub characters : List ℕ
  pub each : InTurn (λ form. IsUsageCharacter Has key form.0 form.1) forms characters
  pub line_is : line ≡ usage_line (name_at names key) characters

-- Circles.

-- a dependency on a circle
abbrev pub circle_line : List Name → Arrow → List ℕ
circle_line names d = codes "circle " ++ key_text (name_at names d.start) ++ codes " "
    ++ kind_text d.kind ++ codes " " ++ key_text (name_at names d.end) ++ codes "\n"

-- A shortest circle.

-- a member, after the key that it starts at: its kind, and the key that it leads to
abbrev pub member_text : List Name → Arrow → List ℕ
member_text names d = codes " " ++ kind_text d.kind ++ codes " " ++ key_text (name_at names d.end)

-- a circle's line, from the key that its first member starts at
abbrev pub because_line : List Name → (first : Arrow) (rest : List Arrow) → List ℕ
because_line names first rest = codes "because " ++ key_text (name_at names first.start)
    ++ flat_map (member_text names) (first ∷ rest) ++ codes "\n"

-- the line is that of a shortest circle of these facts, and no member starts at a key that stands before the first's
pub record IsBecause (Has : Fact → Type 0) (names : List Name) (line : List ℕ) : Type 0 where
  pub first : Arrow
  pub rest : List Arrow
  pub shortest : IsShortestCircle Has (first ∷ rest)
  pub least : (d : Arrow) → Contains rest d →
      ¬ (name_cmp (name_at names d.start) (name_at names first.start) ≡ Less)
  pub line_is : line ≡ because_line names first rest

-- such a line where some dependency is on a circle, and nothing where none is
abbrev pub ShowsBecause : (Fact → Type 0) → List Name → List ℕ → Type 0
ShowsBecause Has names text =
    IsBecause Has names text ⊎ (((d : Arrow) → ¬ OnCircle Has d) × (text ≡ []))

-- Doubles and inversions.

abbrev pub double_line : List Name → Irq → (key : ℕ) → List ℕ
double_line names irq key =
    codes "double " ++ (irq_word irq ++ (codes " " ++ (key_text (name_at names key) ++ codes "\n")))

abbrev pub inversion_line : List Name → Irq → (a b : ℕ) → List ℕ
inversion_line names irq a b = codes "inversion " ++ (irq_word irq ++ (codes " "
    ++ (key_text (name_at names a) ++ (codes " " ++ (key_text (name_at names b) ++ codes "\n")))))

-- The findings.

-- the circle lines, that of a shortest circle, the doubles and the inversions
abbrev pub findings : (Fact → Type 0) → List Name → FoundParts → List (List ℕ → Type 0)
findings Has names found =
    (λ part. part ≡ flat_map (circle_line names) found.circles)
    ∷ ShowsBecause Has names
    ∷ (λ part. part ≡ flat_map (λ x. double_line names x.0 x.1) found.doubles)
    ∷ (λ part. part ≡ flat_map (λ x. inversion_line names x.0 x.1.0 x.1.1) found.inversions)
    ∷ []

-- The whole text.

-- the text is the report of these facts, of this number of traces and events, for the keys with these names
pub record IsReport (Has : Fact → Type 0) (traces events : ℕ) (names : List Name) (text : List ℕ) : Type 0 where
  pub keys : List ℕ
  pub keys_are : IsKeyOrder names keys
  pub found : FoundParts
  pub found_are : AreFound Has keys found
  pub text_is : InSequence (
      AreTotals Has traces events (length names)
      ∷ InTurn (IsUsageLine Has names) keys
      ∷ findings Has names found) text

-- the text is the report of all these traces together
abbrev pub IsReportOf : List (List Event) → List Name → List ℕ → Type 0
IsReportOf traces names text = IsReport (TracesHave traces) (length traces) (sum_by length traces) names text
