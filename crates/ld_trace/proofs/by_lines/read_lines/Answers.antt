use Rattle.ld_trace.proofs.Names.{◌++◌, ◌∙◌, IfErr-weaker, IfOk-weaker, ReadsTo, StopsAt, ap, header_line}
use Rattle.ld_trace.specs.Inside.KnownLines.{left_of}
use Rattle.ld_trace.proofs.Advancing.{all-whole, rest-whole}
use Rattle.ld_trace.proofs.PieceLemmas.{reads-below}
use Rattle.ld_trace.proofs.by_lines.read_lines.Goals as goal

pub returns-then-take_blocks-clause-ok : goal.returns-then-take_blocks-clause-ok
returns-then-take_blocks-clause-ok g c =
    let keys = c.args.keys.now in
    let header = header_line c.args.version in
    let head = c.headers_read.ensures.read keys.room c.args.version keys.names in
    let on = c.take_blocks.ensures.on in
    let first : ReadsTo keys.room keys.names header keys.names c.new-events.result.items = rw c.new-events.ensures.items head.1 in
    let done = on.on.reads keys.names header head.0 first in
    let end = c.take_blocks.ensures.end c.if-take_blocks.true in
    rw c.of_few.ensures
    (all-whole (left_of c.args.block.now.items (g.R.Read.remaining c.args.source)) (g.R.Read.remaining c.take_blocks.new.source) header on.taken (λ bytes. ReadsTo keys.room keys.names bytes c.take_blocks.new.keys.names c.take_blocks.new.events.items)
    (rw end.0 at on.consumes) end.1 done)

pub returns-then-take_blocks-clause-numbered : goal.returns-then-take_blocks-clause-numbered
returns-then-take_blocks-clause-numbered g c =
    let keys = c.args.keys.now in
    let header = header_line c.args.version in
    let head = c.headers_read.ensures.read keys.room c.args.version keys.names in
    let on = c.take_blocks.ensures.on in
    let first : ReadsTo keys.room keys.names header keys.names c.new-events.result.items = rw c.new-events.ensures.items head.1 in
    rw c.of_few.ensures (reads-below keys.room keys.names c.take_blocks.new.keys.names (header ++ on.taken) c.take_blocks.new.events.items (on.on.reads keys.names header head.0 first))

pub returns-clause-ok : goal.returns-clause-ok
returns-clause-ok g c =
    let keys = c.args.keys.now in
    let header = header_line c.args.version in
    let head = c.headers_read.ensures.read keys.room c.args.version keys.names in
    let on = c.take_blocks.ensures.on in
    let first : ReadsTo keys.room keys.names header keys.names c.new-events.result.items = rw c.new-events.ensures.items head.1 in
    let done : ReadsTo keys.room keys.names (header ++ on.taken) c.take_blocks.new.keys.names c.of_few-2.result = rw c.of_few-2.ensures (on.on.reads keys.names header head.0 first) in
    let after = g.R.Read.remaining c.take_blocks.new.source in
    let block = c.take_blocks.new.block.items in
    let known = c.chain-rest.ensures.bytes ∙ ap (λ l. left_of l after) c.as_slice.ensures.value in
    IfOk-weaker c.read_on.result _ _ (λ trace read.
    rest-whole (left_of c.args.block.now.items (g.R.Read.remaining c.args.source)) (left_of block after) header on.taken (λ bytes. ReadsTo keys.room keys.names bytes c.read_on.new.keys.names trace) on.consumes
    (rw known at (read keys.names (header ++ on.taken) (on.on.lines header head.0) done).1)) (rw c.take_blocks.ensures.room at c.read_on.ensures.ok)

pub returns-clause-refused : goal.returns-clause-refused
returns-clause-refused g c =
    let keys = c.args.keys.now in
    let header = header_line c.args.version in
    let head = c.headers_read.ensures.read keys.room c.args.version keys.names in
    let on = c.take_blocks.ensures.on in
    let first : ReadsTo keys.room keys.names header keys.names c.new-events.result.items = rw c.new-events.ensures.items head.1 in
    let done : ReadsTo keys.room keys.names (header ++ on.taken) c.take_blocks.new.keys.names c.of_few-2.result = rw c.of_few-2.ensures (on.on.reads keys.names header head.0 first) in
    let after = g.R.Read.remaining c.take_blocks.new.source in
    let block = c.take_blocks.new.block.items in
    let known = c.chain-rest.ensures.bytes ∙ ap (λ l. left_of l after) c.as_slice.ensures.value in
    IfErr-weaker c.read_on.result _ _ (λ fault stopped.
    rest-whole (left_of c.args.block.now.items (g.R.Read.remaining c.args.source)) (left_of block after) header on.taken (λ bytes. StopsAt keys.room keys.names bytes c.read_on.new.keys.names fault) on.consumes
    (rw known at (stopped keys.names (header ++ on.taken) (on.on.lines header head.0) done))) (rw c.take_blocks.ensures.room at c.read_on.ensures.refused)

pub returns-clause-numbered : goal.returns-clause-numbered
returns-clause-numbered g c =
    let keys = c.args.keys.now in
    let header = header_line c.args.version in
    let head = c.headers_read.ensures.read keys.room c.args.version keys.names in
    let on = c.take_blocks.ensures.on in
    let first : ReadsTo keys.room keys.names header keys.names c.new-events.result.items = rw c.new-events.ensures.items head.1 in
    let done : ReadsTo c.take_blocks.new.keys.room keys.names (header ++ on.taken) c.take_blocks.new.keys.names c.of_few-2.result = rw (c.of_few-2.ensures, c.take_blocks.ensures.room) (on.on.reads keys.names header head.0 first) in
    IfOk-weaker c.read_on.result _ _ (λ trace read. (read keys.names (header ++ on.taken) (on.on.lines header head.0) done).0) c.read_on.ensures.ok
