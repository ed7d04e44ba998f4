-- The text of what was found, in one of two formats [this project's own].
use Rattle.std.specs.Prelude.{◌≡◌, List, ℕ}
use Rattle.ld_text.specs.Names.{AreFindings, Event, Fact, Finding, Name, TracesHave, plain}
use Rattle.ld_text.specs.Explanation.{Sources, explanation_text, sources_of}
use Rattle.ld_text.specs.Json.{json_text}
use Rattle.ld_text.specs.Order.{IsKeyOrder}
use Rattle.ld_text.specs.Words.{Text}
use Rattle.ld_text.specs.declared.findings.Format.{Format}
use Rattle.ld_text.specs.declared.findings.Format.TheVariants.{Lines, Json}

-- findings as lines for people, or as JSON
abbrev pub findings_text : Format → Sources → List Finding → List ℕ
findings_text Lines = explanation_text
findings_text Json = json_text

-- the text says in this format what was found in these facts, by these traces, with the keys in the order of their names
pub record SaysFindings (format : Format) (Has : Fact → Type 0) (sources : Sources) (text : List ℕ) : Type 0 where
  pub keys : List ℕ
  pub keys_are : IsKeyOrder sources.names keys
  pub findings : List Finding
  pub findings_are : AreFindings Has (plain sources.traces) keys findings
  pub text_is : text ≡ findings_text format sources findings

-- the text says in this format what was found in these traces of these files
abbrev pub SaysFindingsOf : Format → List (List Event) → List Name → List Text → List ℕ → Type 0
SaysFindingsOf format traces names files =
    SaysFindings format (TracesHave traces) (sources_of traces names files)
