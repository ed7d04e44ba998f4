use Rattle.ld_trace.proofs.Names.{◌-◌, ◌≡◌, ◌≤◌, arith, drop, length, length-drop, refl, take, take_all}
use Rattle.std.proofs.Math.Seq.{take-add}
use Rattle.ld_trace.specs.Inside.KnownLines.{TakesKnown}
use Rattle.ld_trace.proofs.KnownLines.{takes-more, takes-none}
use Rattle.ld_trace.proofs.known_lines.Lines.take.Goals as goal

pub loop-init : goal.loop-init
loop-init c = (omega arith, c.requires.few, takes-none c.args.version c.args.self.now.known.items c.args.seen.now c.args.events.now.items)

pub loop-preserved : goal.loop-preserved
loop-preserved c =
    let kept = c.loop.invariant in
    let bytes = c.args.bytes.now in
    let at = c.loop.at in
    let count = c.in-Some.count in
    let lines = c.args.self.now.known.items in
    let left : take (length bytes - at) (drop at bytes) ≡ drop at bytes = take_all (length bytes - at) (drop at bytes) (omega (arith, length-drop at bytes)) in
    let within : count ≤ length (drop at bytes) = rw left at c.in-Some.ensures.within in
    let next : TakesKnown c.args.version lines c.loop.seen c.take_next.new.seen c.loop.events.items c.take_next.new.events.items (take count (drop at bytes)) =
    rw left at c.in-Some.ensures.takes in (
      omega (arith, length-drop at bytes, within, kept.0),
      c.take_next.ensures.few,
      rw (take-add at count bytes)
          (takes-more c.args.version lines c.args.seen.now c.loop.seen c.take_next.new.seen c.args.events.now.items c.loop.events.items c.take_next.new.events.items (take at bytes) (take count (drop at bytes)) kept.2 next),
    )

pub returns-in-None-clause-takes : goal.returns-in-None-clause-takes
returns-in-None-clause-takes c = rw ((c.in-None.ensures.none refl).0, (c.in-None.ensures.none refl).1) c.loop.invariant.2
