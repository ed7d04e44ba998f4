-- The command line, as clap's own definition reads it [this project's own].
use Rattle.std.specs.Prelude.{◌≡◌, ◌≢◌, ◌⊎◌, ⊤, ℕ, pos, Bool, true, IsTrue, IsFalse, List, [], ◌∷◌, Option, Some, map, option_map, unwrap_or, codes}
use Rattle.std.specs.Str.Parse.{IsNumeral, digits_value, without_leading_plus}
use Rattle.clap.specs.Lexer.{usize_max}
use Rattle.clap.specs.Words.{App, Row, Rule, Shape, Text, IsAmong, all_of, fault_of, first_of, new_app, new_rule, one_of, subcommand_of, with_rule, with_subcommand}
use Rattle.clap.specs.declared.builder.value_parser.ValueParser.TheVariants.{Signed}
use Rattle.clap.specs.declared.builder.action.ArgAction.TheVariants.{SetTrue}
use Rattle.clap.specs.declared.error.kind.ErrorKind.{ErrorKind}
use Rattle.clap.specs.declared.error.kind.ErrorKind.TheVariants.{DisplayHelp, DisplayVersion}
use Rattle.ld_words.specs.declared.words.LineFault.{LineFault}
use Rattle.ld_words.specs.declared.words.LineFault.TheVariants.{Help, Refused, Memory}
use Rattle.ld_words.specs.declared.words.Line.{Line}
use Rattle.ld_words.specs.declared.words.Line.TheVariants.{Check, Chains, Condense, Explain, Graph, Schedule}

-- `--workers N`: a whole number from 0 to 65,535, 4 if it isn't given
abbrev pub workers_rule : Rule
workers_rule = record (new_rule (codes "workers")) {
  long = Some (codes "workers");
  value_names = 1;
  parser = Some (Signed (pos 0) (pos 65535));
  defaults = codes "4" ∷ [];
}

-- `[FILE...]`: any number of words
abbrev pub files_rule : Rule
files_rule = record (new_rule (codes "FILE")) {
  range = Some (record { start_inclusive = 0; end_inclusive = usize_max });
}

-- `[FILE]`: at most one word
abbrev pub file_rule : Rule
file_rule = new_rule (codes "FILE")

-- a flag of this name
abbrev pub flag_rule : Text → Rule
flag_rule name = record (new_rule name) {
  long = Some name;
  action = Some SetTrue;
}

-- the subcommand of this name, with `[--workers N] [--many]`
abbrev pub many_app : Text → App
many_app name = with_rule (with_rule (new_app name) workers_rule) (flag_rule (codes "many"))

-- `check [--workers N] [--many] [FILE...]`
abbrev pub check_shape : Shape
check_shape = (with_rule (many_app (codes "check")) files_rule).top

-- `explain [--workers N] [--many] [--json] [--locks] [--confirmed-only] [FILE...]`
abbrev pub explain_shape : Shape
explain_shape = (with_rule (with_rule (with_rule (with_rule (many_app (codes "explain")) (flag_rule (codes "json"))) (flag_rule (codes "locks")))
    (flag_rule (codes "confirmed-only"))) files_rule).top

-- `graph [--workers N] [--many] [--findings] [FILE...]`
abbrev pub graph_shape : Shape
graph_shape = (with_rule (with_rule (many_app (codes "graph")) (flag_rule (codes "findings"))) files_rule).top

-- `condense [--workers N] [--many] [FILE...]`
abbrev pub condense_shape : Shape
condense_shape = (with_rule (many_app (codes "condense")) files_rule).top

-- `schedule [--json] [FILE...]`
abbrev pub schedule_shape : Shape
schedule_shape = (with_rule (with_rule (new_app (codes "schedule")) (flag_rule (codes "json"))) files_rule).top

-- `chains [FILE]`
abbrev pub chains_shape : Shape
chains_shape = (with_rule (new_app (codes "chains")) file_rule).top

-- the program's command lines: one of the subcommands, or the version
abbrev pub lockdep_app : App
lockdep_app = let app = new_app (codes "lockdep") in
    with_subcommand (with_subcommand (with_subcommand (with_subcommand (with_subcommand (with_subcommand
    (record app { top = record app.top { subcommand_required = true; has_version = true } })
    check_shape) explain_shape) graph_shape) condense_shape) schedule_shape) chains_shape

-- the arguments give this number of workers and these files
pub record ReadsCheck (rows : List Row) (workers : ℕ) (files : List Text) : Type 0 where
  pub text : Text
  pub given : one_of (codes "workers") rows ≡ Some text
  pub numeral : IsNumeral 10 (without_leading_plus text)
  pub workers_are : workers ≡ digits_value 10 (without_leading_plus text)
  pub files_are : files ≡ unwrap_or (all_of (codes "FILE") rows) []

-- the arguments say whether the flag of this name is set
pub record ReadsFlag (name : Text) (rows : List Row) (is_set : Bool) : Type 0 where
  pub set : one_of name rows ≡ Some (codes "true") → IsTrue is_set
  pub not_set : one_of name rows ≡ Some (codes "false") → IsFalse is_set

-- the word of the subcommand
abbrev pub subcommand_word : Line → Text
subcommand_word (Check workers many files) = codes "check"
subcommand_word (Explain workers many json locks confirmed_only files) = codes "explain"
subcommand_word (Graph workers many findings files) = codes "graph"
subcommand_word (Condense workers many files) = codes "condense"
subcommand_word (Schedule json files) = codes "schedule"
subcommand_word (Chains file) = codes "chains"

-- the arguments of the subcommand say this
abbrev pub ReadsLine : List Row → Line → Type 0
ReadsLine rows (Check workers many files) =
    ReadsCheck rows workers (map (λ file. file.now) files.items) × ReadsFlag (codes "many") rows many
ReadsLine rows (Explain workers many json locks confirmed_only files) =
    ReadsCheck rows workers (map (λ file. file.now) files.items) × ReadsFlag (codes "many") rows many
    × ReadsFlag (codes "json") rows json × ReadsFlag (codes "locks") rows locks
    × ReadsFlag (codes "confirmed-only") rows confirmed_only
ReadsLine rows (Graph workers many findings files) =
    ReadsCheck rows workers (map (λ file. file.now) files.items) × ReadsFlag (codes "many") rows many
    × ReadsFlag (codes "findings") rows findings
ReadsLine rows (Condense workers many files) =
    ReadsCheck rows workers (map (λ file. file.now) files.items) × ReadsFlag (codes "many") rows many
ReadsLine rows (Schedule json files) =
    ReadsFlag (codes "json") rows json × (map (λ file. file.now) files.items ≡ unwrap_or (all_of (codes "FILE") rows) [])
ReadsLine rows (Chains file) = option_map (λ word. word.now) file ≡ first_of (codes "FILE") rows

-- it is a line of `schedule`, and the arguments say this
abbrev pub IsScheduleLine : List Row → Line → Type 0
IsScheduleLine rows line = (subcommand_word line ≡ codes "schedule") × ReadsLine rows line

-- a subcommand's name and arguments ask for this
abbrev pub IsLineIn : Option (Text × List Row) → Line → Type 0
IsLineIn met line = (rows : List Row) × (met ≡ Some (subcommand_word line, rows)) × ReadsLine rows line

-- the words, the program's name first, ask for this: clap's definition gives them that subcommand and those arguments
abbrev pub IsLineOf : List Text → Line → Type 0
IsLineOf words line = IsLineIn (subcommand_of lockdep_app words) line

-- the words ask for help or for the version, by clap's definition
abbrev pub AskForText : List Text → Type 0
AskForText words =
    IsAmong DisplayHelp (fault_of lockdep_app words) ⊎ IsAmong DisplayVersion (fault_of lockdep_app words)

-- the words are refused by clap's definition, and not because they ask for a text
abbrev pub AreRefused : List Text → Type 0
AreRefused words =
    (kind : ErrorKind) × IsAmong kind (fault_of lockdep_app words) × (kind ≢ DisplayHelp) × (kind ≢ DisplayVersion)

-- why the words ask for nothing that the program does with traces
abbrev pub IsLineFault : List Text → LineFault → Type 0
IsLineFault words (Help error) = AskForText words
IsLineFault words Refused = AreRefused words
IsLineFault words Memory = ⊤
