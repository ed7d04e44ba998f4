use Rattle.ld_text.proofs.Names.{◌↔◌, Any, AreJoined, HasFact, IsTrue, false, get_or_default, slice_index_or, subst}
use Rattle.ld_text.proofs.GroupLemmas.{GrowsBy-more}
use Rattle.ld_text.proofs.picture.PictureView.add_keys.Goals as goal

pub add_shown_key-requires : goal.add_shown_key-requires
add_shown_key-requires c = subst (λ key. IsTrue (slice_index_or c.args.joined.now c.loop-n.n false) ↔ Any (AreJoined (HasFact c.args.self.settled.now) key) c.args.self.keys.now)
    (get_or_default c.args.self.keys.now c.loop-n.n 0 c.index-self-n.result c.loop-n-test.true) (c.requires.each c.loop-n.n c.loop-n-test.true)

pub loop-n-preserved : goal.loop-n-preserved
loop-n-preserved c = GrowsBy-more _ _ _ _ _ _ _ c.loop-n-test.true c.loop-n.invariant c.in_ok-add_shown_key.ensures
