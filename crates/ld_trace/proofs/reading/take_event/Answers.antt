use Rattle.ld_trace.proofs.Names.{arith, err_from_is_err_and, fields_of, length, refl}
use Rattle.ld_trace.proofs.ReadLemmas.{event-refused, events-failed, past-last, within-last}
use Rattle.ld_trace.proofs.reading.take_event.Goals as goal

pub returns-in_err-get_record-clause-refused : goal.returns-in_err-get_record-clause-refused
returns-in_err-get_record-clause-refused g c =
    let p = err_from_is_err_and c.from_residual.result c.from_residual.ensures.1 in
    rw (p.1, p.2) (λ known old had. events-failed g.R.Read.remaining known c.args.keys.now.room old c.args.source.now c.args.version c.args.keys.now.names c.args.events.now.items _ c.in_err-get_record.ensures.failed had)

pub returns-then-len-eq-MAX_EVENTS-clause-refused :
    goal.returns-then-len-eq-MAX_EVENTS-clause-refused
returns-then-len-eq-MAX_EVENTS-clause-refused g c =
    λ known old had. event-refused g.R.Read.remaining known c.args.keys.now.room old c.args.source.now c.args.version c.args.keys.now.names c.args.events.now.items c.get_record.new.source (fields_of c.get_record.new.row) _ c.requires.plain
    (rw c.if-not-branch.false at c.in_ok-get_record.ensures.reads) (λ own. rw (past-last (length c.args.events.now.items) (omega (arith, c.len.ensures))) refl) had

pub returns-in_err-take_record-clause-refused : goal.returns-in_err-take_record-clause-refused
returns-in_err-take_record-clause-refused g c =
    let p = err_from_is_err_and c.from_residual-in_err-take_record.result c.from_residual-in_err-take_record.ensures.1 in
    rw (p.1, p.2, c.in_err-take_record.ensures.refused.0) (λ known old had. event-refused g.R.Read.remaining known c.args.keys.now.room old c.args.source.now c.args.version c.args.keys.now.names c.args.events.now.items c.get_record.new.source (fields_of c.get_record.new.row) _ c.requires.plain
    (rw c.if-not-branch.false at c.in_ok-get_record.ensures.reads) (λ own. rw (within-last (length c.args.events.now.items) (omega (arith, c.len.ensures, c.if-len-eq-MAX_EVENTS.false, c.requires.few))) (c.in_err-take_record.ensures.fault own)) had)

pub returns-clause-taken : goal.returns-clause-taken
returns-clause-taken g c = λ e.
    (omega (arith, c.len.ensures, c.if-len-eq-MAX_EVENTS.false, c.requires.few), fields_of c.get_record.new.row, rw c.if-not-branch.false at c.in_ok-get_record.ensures.reads, c.in_ok-take_record.ensures.taken)
