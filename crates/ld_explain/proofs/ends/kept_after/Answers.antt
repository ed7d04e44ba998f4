use Rattle.ld_explain.proofs.Names.{◌∙◌, arith, sym}
use Rattle.ld_explain.proofs.Keys.{never_past}
use Rattle.ld_explain.proofs.ends.kept_after.Goals as goal

pub loop-place-init : goal.loop-place-init
loop-place-init c = c.new-state.ensures c.args.trace.now

pub unreachable-requires : goal.unreachable-requires
unreachable-requires c =
    let l = c.loop-place-test.true in
    let e = c.len-place-end.ensures.count in
    never_past c.args.trace.now c.loop-place.place (omega (arith, l, e)) (sym c.event.ensures ∙ c.in_default.is)
