use Rattle.ld_trace.proofs.Names.{[], ◌++◌, ◌+◌, ◌∙◌, ◌∷◌, ◌≡◌, ap, append-nil, append_assoc, arith, fields_of, length, refl, sym}
use Rattle.ld_trace.proofs.CsvLemmas.{given-all, given-more}
use Rattle.ld_trace.proofs.TakenLemmas.{taken-more}
use Rattle.ld_trace.proofs.reading.take_events.Goals as goal

pub records-init : goal.records-init
records-init g c = (
  c.requires.plain,
  c.requires.few,
  ([], λ known before given. rw (append-nil before) given, λ old rows taken. rw (append-nil rows) taken),
  ([], sym (append-nil c.args.keys.now.names)),
  refl,
)

pub records-preserved : goal.records-preserved
records-preserved g c =
    let kept = c.records.invariant in
    let on = kept.2 in
    let one = c.in-Ok-true.ensures.taken c.in-Ok-true.field-0-test in
    let all = append_assoc c.args.keys.now.names kept.3.0 c.in-Ok-true.ensures.kept_names.0 in (
      c.in-Ok-true.ensures.plain,
      (c.in-Ok-true.ensures.more c.in-Ok-true.field-0-test).1,
      (
        on.0 ++ one.1 ∷ [],
        λ known before given. rw (append_assoc before on.0 (one.1 ∷ [])) at (given-more g.R.Read.remaining known c.records.source c.take_event.new.source (before ++ on.0) one.1 kept.0 (on.1 known before given) one.2),
        λ old rows taken. rw (append_assoc rows on.0 (one.1 ∷ [])) at (taken-more c.args.keys.now.room c.args.version old (rows ++ on.0) c.records.keys.names c.take_event.new.keys.names c.records.events.items c.take_event.new.events.items one.1 (on.2 old rows taken) (rw kept.4 at one.3) one.0),
      ),
      (kept.3.0 ++ c.in-Ok-true.ensures.kept_names.0, c.in-Ok-true.ensures.kept_names.1 ∙ ap (λ names. names ++ c.in-Ok-true.ensures.kept_names.0) kept.3.1 ∙ all),
      c.in-Ok-true.ensures.room ∙ kept.4,
    )

pub returns-in-Ok-false-clause-ok : goal.returns-in-Ok-false-clause-ok
returns-in-Ok-false-clause-ok g c =
    let kept = c.records.invariant in
    let on = kept.2 in
    let same = c.in-Ok-false.ensures.no_more c.in-Ok-false.field-0-test in
    rw (same.0, same.1) (
      on.0,
      λ known before given. given-all g.R.Read.remaining known c.records.source c.take_event.new.source (before ++ on.0) (fields_of c.take_event.new.row) kept.0 (on.1 known before given) (c.in-Ok-false.ensures.ended c.in-Ok-false.field-0-test),
      on.2,
    )

pub returns-in-Err-clause-refused : goal.returns-in-Err-clause-refused
returns-in-Err-clause-refused g c = λ known old had.
    let kept = c.records.invariant in
    let on = kept.2 in
    let at : c.len-at.result ≡ length c.records.events.items = omega (arith, c.len-at.ensures, ap length c.in-Err.ensures.kept.1) in
    let there : c.len-at.result + 2 ≡ length c.records.events.items + 2 = ap (λ n. n + 2) at in
    rw (there, ← kept.4) (c.in-Err.ensures.refused known old (rw kept.4 (had.0 ++ on.0, on.1 known had.0 had.1, on.2 old had.0 had.2)))

pub returns-in-Err-clause-before : goal.returns-in-Err-clause-before
returns-in-Err-clause-before g c = λ e.
    let kept = c.records.invariant in
    let on = kept.2 in
    let read = c.in-Err.ensures.read (rw e refl) in
    let same = c.in-Err.ensures.kept in
    let row = fields_of c.take_event.new.row in
    rw (same.0, same.1) (
      read.0,
      on.0,
      λ known before given. rw (append_assoc before on.0 (row ∷ [])) at (given-more g.R.Read.remaining known c.records.source c.take_event.new.source (before ++ on.0) row kept.0 (on.1 known before given) read.1),
      on.2,
    )
