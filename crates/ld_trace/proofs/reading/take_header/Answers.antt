use Rattle.ld_trace.proofs.Names.{◌∙◌, err_from_is_err_and, fields_of, sym}
use Rattle.ld_trace.proofs.ReadLemmas.{header-failed, header-missing, header-refused}
use Rattle.ld_trace.proofs.reading.take_header.Goals as goal

pub returns-in_err-get_record-clause-refused : goal.returns-in_err-get_record-clause-refused
returns-in_err-get_record-clause-refused g c =
    let p = err_from_is_err_and c.from_residual.result c.from_residual.ensures.1 in
    rw (p.1, p.2) (λ known room old given. header-failed g.R.Read.remaining known room old c.args.source.now _ c.in_err-get_record.ensures.failed given)

pub returns-then-not-branch-clause-refused : goal.returns-then-not-branch-clause-refused
returns-then-not-branch-clause-refused g c =
    λ known room old given. header-missing g.R.Read.remaining known room old c.args.source.now c.get_record.new.source (fields_of c.get_record.new.row) c.requires given (rw c.if-not-branch.true at c.in_ok-get_record.ensures.reads)

pub returns-in-None-clause-refused : goal.returns-in-None-clause-refused
returns-in-None-clause-refused g c =
    λ known room old given. header-refused g.R.Read.remaining known room old c.args.source.now c.get_record.new.source (fields_of c.get_record.new.row) c.requires given (rw c.if-not-branch.false at c.in_ok-get_record.ensures.reads)
    (sym c.version_of.ensures ∙ c.in-None.is)

pub returns-in-Some-clause-taken : goal.returns-in-Some-clause-taken
returns-in-Some-clause-taken g c =
    (fields_of c.get_record.new.row, rw c.if-not-branch.false at c.in_ok-get_record.ensures.reads, sym c.version_of.ensures ∙ c.in-Some.is)
