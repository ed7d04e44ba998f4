use Rattle.ld_text.proofs.Names.{HasFact, IsReport, length, string_bytes, subst, sum_by}
use Rattle.ld_text.proofs.WriteFaultLemmas.{StopsWriting-begun}
use Rattle.ld_text.proofs.report.write_report.Goals as goal

pub returns-in-Ok-clause-err : goal.returns-in-Ok-clause-err
returns-in-Ok-clause-err g c = StopsWriting-begun
    (IsReport (HasFact c.args.settled.now) (length c.args.traces.now) (sum_by length c.args.traces.now) c.args.names.now.names)
    (g.W.Write.contents c.args.w.now) (g.W.Write.contents c.write_text.new.w) (string_bytes c.in-Ok.text) c.write_text.result
    (subst (λ events. IsReport (HasFact c.args.settled.now) (length c.args.traces.now) events c.args.names.now.names (string_bytes c.in-Ok.text)) c.event_count-events.ensures c.in-Ok.ensures)
    c.write_text.ensures.not_memory
    (rw (c.as_bytes.ensures.value, c.as_str.ensures.value) at c.write_text.ensures.err)
