use Rattle.ld_trace.proofs.Names.{◌∙◌, arith, refl}
use Rattle.ld_trace.proofs.Advancing.{advance-block, advance-front, advance-nothing}
use Rattle.ld_trace.specs.Inside.KnownLines.{left_of}
use Rattle.ld_trace.proofs.by_lines.take_blocks.Goals as goal

pub loop-init : goal.loop-init
loop-init g c = (
  c.requires.few,
  refl,
  omega arith,
  omega arith,
  advance-nothing c.args.version c.args.keys.now.room c.args.keys.now.names c.args.events.now.items (left_of c.args.block.now.items (g.R.Read.remaining c.args.source.now)),
)

pub returns-then-contains-clause-on : goal.returns-then-contains-clause-on
returns-then-contains-clause-on g c =
    let kept = c.loop.invariant in
    let on = rw (c.as_slice.ensures.value, kept.1) at c.take_lines-taken.ensures.on in
    rw c.drop_front.ensures
    (advance-front c.args.version c.args.keys.now.room c.args.keys.now.names c.loop.keys.names c.take_lines-taken.new.keys.names c.args.events.now.items c.loop.events.items c.take_lines-taken.new.events.items _ _ c.loop.block.items c.take_lines-taken.result kept.4 on)

pub returns-in-Some-false-clause-on : goal.returns-in-Some-false-clause-on
returns-in-Some-false-clause-on g c =
    let kept = c.loop.invariant in
    let on = rw (c.as_slice.ensures.value, kept.1) at c.take_lines-taken.ensures.on in
    advance-block c.args.version c.args.keys.now.room c.args.keys.now.names c.loop.keys.names c.take_lines-taken.new.keys.names c.args.events.now.items c.loop.events.items c.take_lines-taken.new.events.items
    (left_of c.args.block.now.items (g.R.Read.remaining c.args.source.now)) (g.R.Read.remaining c.loop.source) (g.R.Read.remaining c.fill.new.source) c.loop.block.items c.drop_front.new.block.items c.fill.new.block.items
    c.take_lines-taken.result kept.4 on c.drop_front.ensures c.fill.ensures.more

pub returns-in-None-clause-on : goal.returns-in-None-clause-on
returns-in-None-clause-on g c =
    let kept = c.loop.invariant in
    let on = rw (c.as_slice.ensures.value, kept.1) at c.take_lines-taken.ensures.on in
    advance-block c.args.version c.args.keys.now.room c.args.keys.now.names c.loop.keys.names c.take_lines-taken.new.keys.names c.args.events.now.items c.loop.events.items c.take_lines-taken.new.events.items
    (left_of c.args.block.now.items (g.R.Read.remaining c.args.source.now)) (g.R.Read.remaining c.loop.source) (g.R.Read.remaining c.fill.new.source) c.loop.block.items c.drop_front.new.block.items c.fill.new.block.items
    c.take_lines-taken.result kept.4 on c.drop_front.ensures c.fill.ensures.more

pub loop-preserved : goal.loop-preserved
loop-preserved g c =
    let kept = c.loop.invariant in
    let on = rw (c.as_slice.ensures.value, kept.1) at c.take_lines-taken.ensures.on in (
      c.take_lines-taken.ensures.few,
      c.take_lines-taken.ensures.room ∙ kept.1,
      c.next_size-size.ensures.0,
      c.next_size-size.ensures.1,
      advance-block c.args.version c.args.keys.now.room c.args.keys.now.names c.loop.keys.names c.take_lines-taken.new.keys.names c.args.events.now.items c.loop.events.items c.take_lines-taken.new.events.items
          (left_of c.args.block.now.items (g.R.Read.remaining c.args.source.now)) (g.R.Read.remaining c.loop.source) (g.R.Read.remaining c.fill.new.source) c.loop.block.items c.drop_front.new.block.items c.fill.new.block.items
          c.take_lines-taken.result kept.4 on c.drop_front.ensures c.fill.ensures.more,
    )
