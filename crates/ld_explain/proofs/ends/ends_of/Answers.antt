use Rattle.ld_explain.proofs.Names.{length, refl, slice_get_read, subst, sym}
use Rattle.ld_explain.proofs.Listing.{AreEndsBelow, ends-more, ends-none}
use Rattle.ld_explain.proofs.ends.ends_of.Goals as goal

pub loop-i-init : goal.loop-i-init
loop-i-init c = subst (AreEndsBelow c.args.traces.now 0) (sym c.new-ends.ensures.items) (ends-none c.args.traces.now)

pub loop-i-preserved : goal.loop-i-preserved
loop-i-preserved c =
    let here = slice_get_read c.args.traces.now (length c.args.traces.now) c.loop-i.i c.index-traces-i.result refl c.loop-i-test.true c.index-traces-i.is in
    ends-more c.args.traces.now c.loop-i.i c.index-traces-i.result here _ _ _ c.in_ok-add_end.ensures c.in_ok-kept_after.ensures c.loop-i.invariant
