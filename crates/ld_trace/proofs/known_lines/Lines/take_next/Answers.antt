use Rattle.ld_trace.proofs.Names.{◌≡◌, ◌∙◌, refl, take}
use Rattle.ld_trace.specs.declared.known_lines.KnownLine.{KnownLine}
use Rattle.ld_trace.proofs.KnownLines.{takes-known}
use Rattle.ld_trace.proofs.known_lines.Lines.take_next.Goals as goal

pub returns-clause-takes : goal.returns-clause-takes
returns-clause-takes c =
    let known : KnownLine = c.in_ok-known.known.now in
    let there = rw c.deref.ensures.value at c.in_ok-known.ensures.lookup.3 in
    let front = take c.in_ok-front.front.count c.args.bytes.now in
    let bytes : front ≡ known.text.items = rw c.if-front-text.false ((c.if-not-begin_with.ensures refl).1 ∙ c.as_slice-text.ensures.value) in
    takes-known c.args.version c.args.self.now.known.items c.in_ok-number.number known c.args.seen.now c.add_event.new.seen c.args.events.now.items c.add_event.new.events.items front
    there.0 (there.1 known) (c.in_ok-add_event.ensures.takes) bytes
