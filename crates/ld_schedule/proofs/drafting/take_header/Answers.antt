use Rattle.std.proofs.Common.{◌∙◌, sym}
use Rattle.std.proofs.lemmas.Result.{err_from_is_err_and}
use Rattle.csv.specs.Records.{fields_of}
use Rattle.ld_schedule.proofs.ReadingLemmas.{header-failed, header-missing, header-refused, header-taken}
use Rattle.ld_schedule.proofs.drafting.take_header.Goals as goal

pub returns-in_err-get_record-clause-refused : goal.returns-in_err-get_record-clause-refused
returns-in_err-get_record-clause-refused g c =
    let p = err_from_is_err_and c.from_residual.result c.from_residual.ensures.1 in
    rw (p.1, p.2) (λ known given. header-failed g.R.Read.remaining known c.args.source.now _ c.in_err-get_record.ensures.failed given)

pub returns-then-not-branch-clause-refused : goal.returns-then-not-branch-clause-refused
returns-then-not-branch-clause-refused g c =
    λ known given. header-missing g.R.Read.remaining known c.args.source.now c.get_record.new.source (fields_of c.get_record.new.row) c.requires given (rw c.if-not-branch.true at c.in_ok-get_record.ensures.reads)

pub returns-then-not-is_header-clause-refused : goal.returns-then-not-is_header-clause-refused
returns-then-not-is_header-clause-refused g c =
    λ known given. header-refused g.R.Read.remaining known c.args.source.now c.get_record.new.source (fields_of c.get_record.new.row) c.requires given (rw c.if-not-branch.false at c.in_ok-get_record.ensures.reads)
    (sym c.is_header.ensures ∙ c.if-not-is_header.true)

pub returns-clause-taken : goal.returns-clause-taken
returns-clause-taken g c =
    λ known given. header-taken g.R.Read.remaining known c.args.source.now c.get_record.new.source (fields_of c.get_record.new.row) c.requires given (rw c.if-not-branch.false at c.in_ok-get_record.ensures.reads)
    (sym c.is_header.ensures ∙ c.if-not-is_header.false)
