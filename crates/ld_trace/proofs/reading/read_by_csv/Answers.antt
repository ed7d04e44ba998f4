use Rattle.ld_trace.proofs.Names.{[], err_from_is_err_and}
use Rattle.ld_trace.proofs.ReadLemmas.{if-some, reads-to}
use Rattle.ld_trace.proofs.reading.read_by_csv.Goals as goal

pub returns-clause-ok : goal.returns-clause-ok
returns-clause-ok g c =
    let all = c.in_ok-take_records.ensures.ok in
    let known = g.R.Read.remaining c.args.reader in
    rw c.of_few.ensures
    (if-some known _ _
    (λ bytes are. reads-to c.args.keys.now.room all.version c.args.keys.now.names bytes all.rows c.take_records.new.keys.names c.take_records.new.events.items are all.are_taken)
    (all.last known [] c.plain_reader-source.ensures.none))

pub returns-in_err-take_records-clause-refused : goal.returns-in_err-take_records-clause-refused
returns-in_err-take_records-clause-refused g c =
    let p = err_from_is_err_and c.from_residual.result c.from_residual.ensures.1 in
    rw (p.1, p.2) (c.in_err-take_records.ensures.refused (g.R.Read.remaining c.args.reader) c.plain_reader-source.ensures.none)
