-- The text of the condensed trace [this project's own].
use Rattle.std.specs.Prelude.{[], ◌≡◌, ◌≤◌, List, length, ℕ}
use Rattle.lockdep.specs.Names.{Event, Fact, IsCondensed, Name, ReadsBack, TracesHave, trace_text}

-- the text of these events reads back: a new table with room for as many names takes it, and it stands for events that say the same
abbrev pub ReadsBackAnew : List Name → List Event → Type 0
ReadsBackAnew names trace = (room : ℕ) → length names ≤ room
    → (new : List Name) × (read : List Event) × ReadsBack room names trace [] new read

-- the text is that of one trace that has exactly these facts, of keys with these names, and it reads back
pub record IsCondensedText (Has : Fact → Type 0) (names : List Name) (text : List ℕ) : Type 0 where
  pub trace : List Event
  pub condensed : IsCondensed (length names) Has trace
  pub text_is : text ≡ trace_text names trace
  pub reads_back : ReadsBackAnew names trace

-- the text is that of one trace that has exactly the facts of all these traces together
abbrev pub IsCondensedOf : List (List Event) → List Name → List ℕ → Type 0
IsCondensedOf traces names text = IsCondensedText (TracesHave traces) names text
