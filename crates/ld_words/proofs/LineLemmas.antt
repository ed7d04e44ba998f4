-- What the getters of clap's matches return, in terms of the rows of its definition.
use Rattle.std.proofs.Common.{◌≡◌, ◌∙◌, ℕ, Bool, List, [], Option, Some, None, Result, Ok, codes, false, map, option_map, refl, ap, subst, true, Bor}
use Rattle.std.specs.Prelude.{unwrap_or, Box}
use Rattle.std.specs.Box.{box_value}
use Rattle.std.specs.Str.Parse.{IsNumeral, ParsesUnsigned, digits_value, without_leading_plus}
use Rattle.clap.specs.Matches.{ReadsOne, matched_of, raw_values}
use Rattle.clap.specs.Walk.{Row, Text, all_of, rows_of}
use Rattle.clap.specs.Simple.{subcommand_rows}
use Rattle.clap.specs.declared.parser.matches.Found.{Found}
use Rattle.clap.specs.declared.parser.matches.SubCommand.{SubCommand}
use Rattle.clap.specs.declared.parser.matches.ArgMatches.TheViews.{out-SubCommand}
use Rattle.clap.specs.Words.{one_text}
use Rattle.clap.proofs.WalkLemmas.{one_text-rows, raw_values-rows}
use Rattle.ld_words.specs.CommandLine.{ReadsFlag}

-- a subcommand's name and its rows, together
module _ {Z : Type 0} where
  pub subcommand_met : (sub : Option (Box SubCommand Z)) (name : Text) (rows : List Row) → option_map (λ b. (out-SubCommand (box_value b)).name.now) sub ≡ Some name → option_map (λ p. p.1) (subcommand_rows sub) ≡ Some rows → subcommand_rows sub ≡ Some (name, rows)
  subcommand_met None name rows named e = absurd (cc)
  subcommand_met (Some b) name rows named e = cc

-- the values of an argument, none if it has no entry
pub all_values : (given : Option (Bor (List (Bor Text)))) (f : Found) (id : Text) → option_map (λ s. map (λ v. v.now) s.now) given ≡ option_map raw_values (matched_of f id) → unwrap_or (option_map (λ s. map (λ v. v.now) s.now) given) [] ≡ unwrap_or (all_of id (rows_of f)) []
all_values given f id is = ap (λ values. unwrap_or values []) (is ∙ raw_values-rows f id)

-- a number that was read is that of the text
pub number_read : {E : Type 0} (gives : List ℕ → Result ℕ E → Type 0) → ((t : Text) (r : Result ℕ E) → gives t r → ParsesUnsigned 16 10 t r) → (text : Option Text) (read : Option ℕ) (n : ℕ) → (text ≡ None → read ≡ None) → ((t : Text) → text ≡ Some t → ReadsOne gives t read) → read ≡ Some n
    → (t : Text) × (text ≡ Some t) × IsNumeral 10 (without_leading_plus t) × (n ≡ digits_value 10 (without_leading_plus t))
number_read gives only None read n none some is = absurd (let e = none refl in cc)
number_read gives only (Some t) read n none some is =
    let parsed = only t (Ok n) (subst (λ (r : Option ℕ). ReadsOne gives t r) is (some t refl)) in
    (t, refl, parsed.0.0, parsed.1)

-- a flag that was read is that of the text
pub flag-read : (f : Found) (name : Text) (read : Bool) → (one_text f name ≡ Some (codes "true") → read ≡ true) →
    (one_text f name ≡ Some (codes "false") → read ≡ false) → ReadsFlag name (rows_of f) read
flag-read f name read set not_set =
    let rows = one_text-rows f name in
    record { set = λ is. set (rows ∙ is); not_set = λ is. not_set (rows ∙ is) }
