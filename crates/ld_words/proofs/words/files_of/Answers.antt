use Rattle.std.proofs.Common.{◌≡◌, ◌∙◌, ◌++◌, [], ap, subst, List, Option, Bor, ℕ, map, option_map, codes}
use Rattle.std.specs.Prelude.{unwrap_or}
use Rattle.clap.specs.Words.{all_of, found_of, rows_of}
use Rattle.ld_words.proofs.LineLemmas.{all_values}
use Rattle.ld_words.proofs.words.files_of.Goals.{in-Some+in_ok-extend_from_slice, in_default}
use Rattle.ld_words.proofs.words.files_of.Goals as goal

-- the texts of the words
abbrev texts_of : List (Bor (List ℕ)) → List (List ℕ)
texts_of = map (λ word. word.now)

pub returns : goal.returns
returns c =
    let wanted : List (List ℕ) = unwrap_or (all_of (codes "FILE") (rows_of (found_of c.args.found.now))) [] in
    let read = λ (given : Option (Bor (List (Bor (List ℕ))))). unwrap_or (option_map (λ s. texts_of s.now) given) [] ≡ wanted in
    let values : read c.get_raw.result = all_values c.get_raw.result (found_of c.args.found.now) (codes "FILE") c.get_raw.ensures in
    elim c.match-get_raw.branch [
      | in-Some+in_ok-extend_from_slice w ↦
          ap (λ files. texts_of files.items) w.files-is
          ∙ ap texts_of (w.in_ok-extend_from_slice.ensures.items ∙ ap (λ old. old ++ w.in-Some.given.now) c.new-files.ensures.items)
          ∙ subst read w.in-Some.is values
      | in_default w ↦
          ap (λ files. texts_of files.items) w.files-is ∙ ap texts_of c.new-files.ensures.items ∙ subst read w.in_default.is values
    ]
