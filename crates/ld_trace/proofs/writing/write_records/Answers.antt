use Rattle.ld_trace.proofs.Names.{event_text, flat_map, header_of, on_ok_weaker, record_text, text_written, version_for}
use Rattle.std.proofs.KnownBytes.{Appends-trans}
use Rattle.ld_trace.proofs.WriteLemmas.{trace_text-parts}
use Rattle.ld_trace.proofs.writing.write_records.Goals as goal

pub returns : goal.returns
returns g c =
    let old = text_written g.W.Write.contents c.args.rows.now in
    let mid = text_written g.W.Write.contents c.write_header.new.rows in
    let new = text_written g.W.Write.contents c.write_events.new.rows in
    let names = c.args.keys.now.names in
    let events = c.args.events.now in
    let header = rw c.version_for.ensures at c.in_ok-write_header.ensures.text in
    on_ok_weaker c.write_events.result
    (λ wrote. rw (trace_text-parts names events)
    (Appends-trans old mid new (record_text (header_of (version_for events))) (flat_map (event_text names) events) header wrote))
    (rw c.as_slice.ensures at c.write_events.ensures)
