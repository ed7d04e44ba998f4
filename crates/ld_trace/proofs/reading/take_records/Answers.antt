use Rattle.ld_trace.proofs.Names.{[], ◌++◌, ◌∷◌, IfErr-weaker, IfOk-weaker, append_assoc, fields_of}
use Rattle.ld_trace.proofs.CsvLemmas.{given-more}
use Rattle.ld_trace.proofs.ReadLemmas.{header-taken, taken-header}
use Rattle.ld_trace.proofs.reading.take_records.Goals as goal

pub returns-clause-ok : goal.returns-clause-ok
returns-clause-ok g c =
    let names = c.args.keys.now.names in
    let header = c.in-Ok.ensures.taken in
    let first = taken-header c.args.keys.now.room c.in-Ok.version names header.0 header.2 in
    IfOk-weaker c.take_events.result _ _ (λ _ on. record {
      rows = header.0 ∷ on.0;
      version = c.in-Ok.version;
      are_taken = on.2 names (header.0 ∷ []) (rw c.requires.none first);
      last = λ known before given.
          rw (append_assoc before (header.0 ∷ []) on.0) at (on.1 known (before ++ header.0 ∷ []) (given-more g.R.Read.remaining known c.args.source.now c.take_header.new.source before header.0 c.requires.plain given header.1));
    }) c.take_events.ensures.ok

pub returns-clause-refused : goal.returns-clause-refused
returns-clause-refused g c =
    let names = c.args.keys.now.names in
    let header = c.in-Ok.ensures.taken in
    IfErr-weaker c.take_events.result _ _ (λ fault stopped known given. stopped known names
    (rw c.requires.none (header-taken g.R.Read.remaining known c.args.keys.now.room names c.args.source.now c.in-Ok.version c.take_header.new.source header.0 c.requires.plain given header.1 header.2))) c.take_events.ensures.refused

pub returns-clause-before : goal.returns-clause-before
returns-clause-before g c =
    let names = c.args.keys.now.names in
    let header = c.in-Ok.ensures.taken in
    let first = taken-header c.args.keys.now.room c.in-Ok.version names header.0 header.2 in
    let row = fields_of c.take_events.new.row in
    IfErr-weaker c.take_events.result _ _ (λ fault found e. let on = found e in (
      on.0,
      record {
        rows = header.0 ∷ on.1;
        version = c.in-Ok.version;
        are_taken = on.3 names (header.0 ∷ []) (rw c.requires.none first);
        returns = λ known before given.
            rw (append_assoc before (header.0 ∷ []) (on.1 ++ row ∷ [])) at (on.2 known (before ++ header.0 ∷ []) (given-more g.R.Read.remaining known c.args.source.now c.take_header.new.source before header.0 c.requires.plain given header.1));
      },
    )) c.take_events.ensures.before
