use Rattle.ld_trace.proofs.Names.{◌+◌, ◌∙◌, ◌≡◌, arith, length-drop}
use Rattle.ld_trace.proofs.BlockLemmas.{all-from, round-on}
use Rattle.ld_trace.proofs.by_lines.take_lines.Goals.{else-loop-test, then-loop-test+then-taken-eq0}
use Rattle.ld_trace.proofs.by_lines.take_lines.Goals as goal

pub loop-preserved : goal.loop-preserved
loop-preserved c =
    let kept = c.loop.invariant in
    let bytes = c.args.bytes.now in
    let added = c.learn_lines.ensures.kept in
    let left = all-from c.loop.at bytes in
    let within = rw left at c.take_known-taken.ensures.within in
    let room = c.learn_lines.ensures.room ∙ kept.3 in
    let on = rw (left, room) at c.take_known-taken.ensures.on in (
      omega (arith, length-drop c.loop.at bytes, within, kept.0),
      c.take_known-taken.ensures.few,
      c.take_known-taken.ensures.seen.1,
      room,
      (round-on c.args.version c.args.keys.now.room c.args.keys.now.names c.loop.keys.names c.learn_lines.new.self.names added.0 c.loop.seen c.take_known-taken.new.seen c.args.events.now.items c.loop.events.items c.take_known-taken.new.events.items
          bytes c.loop.at c.take_known-taken.result added.1 kept.2 kept.4 on),
    )

pub returns-clause-on : goal.returns-clause-on
returns-clause-on c = elim c.loop-test.branch [
  | else-loop-test w ↦ rw (c.forget_from.ensures.names, w.events-is, w.keys-is, w.seen-is) c.loop.invariant.4
  | then-loop-test+then-taken-eq0 w ↦
      let kept = c.loop.invariant in
      let bytes = c.args.bytes.now in
      let added = w.learn_lines.ensures.kept in
      let on = rw (all-from c.loop.at bytes, w.learn_lines.ensures.room ∙ kept.3) at w.take_known-taken.ensures.on in
      let all = round-on c.args.version c.args.keys.now.room c.args.keys.now.names c.loop.keys.names w.learn_lines.new.self.names added.0 c.loop.seen w.take_known-taken.new.seen c.args.events.now.items c.loop.events.items
      w.take_known-taken.new.events.items bytes c.loop.at w.take_known-taken.result added.1 kept.2 kept.4 on in
      let end : c.loop.at + w.take_known-taken.result ≡ c.loop.at = omega (arith, w.if-taken-eq0.true) in
      rw (c.forget_from.ensures.names, w.events-is, w.keys-is, w.seen-is) (rw end at all)
]
