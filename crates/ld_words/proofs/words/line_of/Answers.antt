use Rattle.std.proofs.Common.{◌∙◌, refl, codes}
use Rattle.std.proofs.lemmas.Result.{IfOk-weaker}
use Rattle.clap.specs.Words.{found_of, rows_of}
use Rattle.clap.proofs.WalkLemmas.{first_value-rows}
use Rattle.ld_words.proofs.LineLemmas.{flag-read, subcommand_met}
use Rattle.ld_words.proofs.words.line_of.Goals as goal

pub returns-in-Some-subcommand_matches-clause-ok : goal.returns-in-Some-subcommand_matches-clause-ok
returns-in-Some-subcommand_matches-clause-ok c =
    let found = c.in-Some-subcommand_matches.found in
    let met = c.in-Some-subcommand_matches.ensures in
    let read = c.in_ok-workers-2.ensures in (
      rows_of (found_of found.now),
      subcommand_met _ (codes "explain") (rows_of (found_of found.now)) (met.found.0 refl) met.rows,
      (
        read.check,
        read.many,
        flag-read (found_of found.now) (codes "json") c.get_flag.result c.get_flag.ensures.value c.get_flag.ensures.other,
        flag-read (found_of found.now) (codes "locks") c.get_flag-in-Some-subcommand_matches.result c.get_flag-in-Some-subcommand_matches.ensures.value c.get_flag-in-Some-subcommand_matches.ensures.other,
        flag-read (found_of found.now) (codes "confirmed-only") c.get_flag-in-Some-subcommand_matches-2.result c.get_flag-in-Some-subcommand_matches-2.ensures.value c.get_flag-in-Some-subcommand_matches-2.ensures.other,
      ),
    )

pub returns-in-Some-subcommand_matches-2-clause-ok : goal.returns-in-Some-subcommand_matches-2-clause-ok
returns-in-Some-subcommand_matches-2-clause-ok c =
    let found = c.in-Some-subcommand_matches-2.found in
    let met = c.in-Some-subcommand_matches-2.ensures in
    let read = c.in_ok-workers-3.ensures in (
      rows_of (found_of found.now),
      subcommand_met _ (codes "graph") (rows_of (found_of found.now)) (met.found.0 refl) met.rows,
      (read.check, read.many, flag-read (found_of found.now) (codes "findings") c.get_flag-findings.result c.get_flag-findings.ensures.value c.get_flag-findings.ensures.other),
    )

pub returns-in-Some-subcommand_matches-4-clause-ok : goal.returns-in-Some-subcommand_matches-4-clause-ok
returns-in-Some-subcommand_matches-4-clause-ok c =
    let found = c.in-Some-subcommand_matches-4.found in
    let met = c.in-Some-subcommand_matches-4.ensures in
    let rows = rows_of (found_of found.now) in
    IfOk-weaker c.schedule_line.result _ _ (λ line is. (rows, rw is.0 (subcommand_met _ (codes "schedule") rows (met.found.0 refl) met.rows), is.1)) c.schedule_line.ensures.ok

pub returns-clause-ok : goal.returns-clause-ok
returns-clause-ok c =
    let found = c.in-Some-subcommand_matches-5.found in
    let met = c.in-Some-subcommand_matches-5.ensures in (
      rows_of (found_of found.now),
      subcommand_met _ (codes "chains") (rows_of (found_of found.now)) (met.found.0 refl) met.rows,
      c.get_str-file.ensures ∙ first_value-rows (found_of found.now) (codes "FILE"),
    )
