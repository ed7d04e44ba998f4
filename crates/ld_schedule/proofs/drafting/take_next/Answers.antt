use Rattle.std.proofs.Common.{◌<◌, arith, refl}
use Rattle.std.proofs.lemmas.Result.{err_from_is_err_and}
use Rattle.csv.specs.Records.{fields_of}
use Rattle.ld_schedule.specs.declared.limits.TheConstants.{MAX_RECORDS}
use Rattle.ld_schedule.proofs.ReadingLemmas.{past-line, record-refused, record-taken, records-ended, records-failed, refused-line}
use Rattle.ld_schedule.proofs.drafting.take_next.Goals as goal

pub returns-in_err-get_record-clause-refused : goal.returns-in_err-get_record-clause-refused
returns-in_err-get_record-clause-refused g c =
    let p = err_from_is_err_and c.from_residual.result c.from_residual.ensures.1 in
    rw (p.1, p.2) (λ known had. records-failed g.R.Read.remaining known c.args.source.now c.args.count c.args.draft.now _ c.in_err-get_record.ensures.failed had)

pub returns-then-not-branch-clause-ended : goal.returns-then-not-branch-clause-ended
returns-then-not-branch-clause-ended g c = λ e known had.
    records-ended g.R.Read.remaining known c.args.source.now c.args.count c.args.draft.now c.get_record.new.source (fields_of c.get_record.new.row) c.requires.plain (rw c.if-not-branch.true at c.in_ok-get_record.ensures.reads) had

pub returns-then-count-eq-MAX_RECORDS-clause-refused : goal.returns-then-count-eq-MAX_RECORDS-clause-refused
returns-then-count-eq-MAX_RECORDS-clause-refused g c = λ known had.
    record-refused g.R.Read.remaining known c.args.source.now c.args.count c.args.draft.now c.get_record.new.source (fields_of c.get_record.new.row) _ c.requires.plain (rw c.if-not-branch.false at c.in_ok-get_record.ensures.reads)
    (λ own. past-line c.args.count c.args.draft.now (fields_of c.get_record.new.row) c.if-count-eq-MAX_RECORDS.true) had

pub returns-in_err-line-clause-refused : goal.returns-in_err-line-clause-refused
returns-in_err-line-clause-refused g c =
    let p = err_from_is_err_and c.from_residual-in_err-line.result c.from_residual-in_err-line.ensures.1 in
    let few : c.args.count < MAX_RECORDS = omega arith in
    rw (p.1, p.2) (λ known had. record-refused g.R.Read.remaining known c.args.source.now c.args.count c.args.draft.now c.get_record.new.source (fields_of c.get_record.new.row) _ c.requires.plain
    (rw c.if-not-branch.false at c.in_ok-get_record.ensures.reads)
    (λ own. refused-line c.args.count c.args.draft.now (fields_of c.get_record.new.row) _ few (rw c.in_err-line.ensures refl)) had)

pub returns-in_err-take-clause-refused : goal.returns-in_err-take-clause-refused
returns-in_err-take-clause-refused g c =
    let p = err_from_is_err_and c.from_residual-in_err-take.result c.from_residual-in_err-take.ensures.1 in
    let few : c.args.count < MAX_RECORDS = omega arith in
    rw (p.1, p.2) (λ known had. record-refused g.R.Read.remaining known c.args.source.now c.args.count c.args.draft.now c.get_record.new.source (fields_of c.get_record.new.row) _ c.requires.plain
    (rw c.if-not-branch.false at c.in_ok-get_record.ensures.reads)
    (λ own. refused-line c.args.count c.args.draft.now (fields_of c.get_record.new.row) _ few (rw c.in_ok-line.ensures (c.in_err-take.ensures.fault own))) had)

pub returns-clause-more : goal.returns-clause-more
returns-clause-more g c = λ e.
    let few : c.args.count < MAX_RECORDS = omega arith in (
      few,
      λ known had. record-taken g.R.Read.remaining known c.args.source.now c.args.count c.args.draft.now c.get_record.new.source (fields_of c.get_record.new.row) c.take.new.self c.requires.plain
          (rw c.if-not-branch.false at c.in_ok-get_record.ensures.reads) (rw c.in_ok-line.ensures c.in_ok-take.ensures.taken) few had,
    )
