use Rattle.ld_text.proofs.Names.{length, refl, slice_get_read}
use Rattle.ld_text.proofs.LeafLemmas.{waits_more}
use Rattle.ld_text.proofs.wording.Wording.add_waits.Goals as goal

pub loop-i-preserved : goal.loop-i-preserved
loop-i-preserved c =
    let walk = c.args.walk.now in
    waits_more c.args.self.now.names c.args.first walk c.loop-i.i c.index-walk-i.result _ _ _
    (slice_get_read walk (length walk) c.loop-i.i c.index-walk-i.result refl c.loop-i-test.true c.index-walk-i.is) c.loop-i-test.true
    c.loop-i.invariant c.in_ok-add_wait.ensures
