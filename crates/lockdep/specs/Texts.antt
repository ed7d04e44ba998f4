-- What is written about all traces together [this project's own].
use Rattle.std.specs.Prelude.{Bool, List, map, ℕ}
use Rattle.lockdep.specs.Names.{Event, IsPictureOf, IsReportOf, Name, SaysFindingsOf, Text}
use Rattle.lockdep.specs.Condensed.{IsCondensedOf}
use Rattle.ld_text.specs.declared.findings.Format.TheVariants as format
use Rattle.lockdep.specs.declared.output.Output.{Output}
use Rattle.lockdep.specs.declared.output.Output.TheVariants.{Report, Explanation, Json, Picture, Condensed}

-- an output as contracts see it: with the names of the files as texts
pub data OutputView : Type 0 where
  report : OutputView
  explanation : List Text → OutputView
  json : List Text → OutputView
  picture : Bool → OutputView
  condensed : OutputView

abbrev pub view_of : Output → OutputView
view_of Report = report
view_of (Explanation files) = explanation (map (λ file. file.now) files.now)
view_of (Json files) = json (map (λ file. file.now) files.now)
view_of (Picture findings) = picture findings
view_of Condensed = condensed

-- the text is this output of these traces
abbrev pub IsTextOf : OutputView → List (List Event) → List Name → List ℕ → Type 0
IsTextOf report traces names = IsReportOf traces names
IsTextOf (explanation files) traces names = SaysFindingsOf format.Lines traces names files
IsTextOf (json files) traces names = SaysFindingsOf format.Json traces names files
IsTextOf (picture findings) traces names = IsPictureOf findings traces names
IsTextOf condensed traces names = IsCondensedOf traces names
