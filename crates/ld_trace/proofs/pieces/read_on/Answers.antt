use Rattle.ld_trace.proofs.Names.{◌++◌, err_from_is_err_and}
use Rattle.ld_trace.proofs.PieceLemmas.{if-mapped, taken-on}
use Rattle.ld_trace.proofs.ReadLemmas.{if-some, reads-to}
use Rattle.ld_trace.proofs.pieces.read_on.Goals as goal

pub returns-clause-ok : goal.returns-clause-ok
returns-clause-ok g c = λ old done lines first.
    let keys = c.args.keys.now in
    let rest = g.R.Read.remaining c.args.reader in
    let had = taken-on keys.room c.args.version old keys.names done c.args.events lines first _ c.chain.result c.plain_reader-source.result rest c.plain_reader-source.ensures.fresh c.chain.ensures.bytes in
    let on = c.in_ok-take_events.ensures.ok in
    let all = on.2 old had.0 (rw c.into_events-events.ensures.events had.2) in (
      rw c.of_few.ensures all.below,
      rw c.of_few.ensures (if-mapped _ _ rest (if-some _ _ _ (λ bytes are. reads-to keys.room c.args.version old bytes (had.0 ++ on.0) c.take_events.new.keys.names c.take_events.new.events.items are all) (on.1 _ had.0 had.1))),
    )

pub returns-in_err-take_events-clause-refused : goal.returns-in_err-take_events-clause-refused
returns-in_err-take_events-clause-refused g c =
    let p = err_from_is_err_and c.from_residual.result c.from_residual.ensures.1 in
    let keys = c.args.keys.now in
    let rest = g.R.Read.remaining c.args.reader in
    rw (p.1, p.2) (λ old done lines first.
    let had = taken-on keys.room c.args.version old keys.names done c.args.events lines first _ c.chain.result c.plain_reader-source.result rest c.plain_reader-source.ensures.fresh c.chain.ensures.bytes in
    if-mapped _ _ rest (c.in_err-take_events.ensures.refused _ old (rw c.into_events-events.ensures.events had)))
