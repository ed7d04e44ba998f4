use Rattle.ld_text.proofs.GroupLemmas.{GrowsBy-more}
use Rattle.ld_text.proofs.picture.PictureView.add_characters.Goals as goal

pub loop-form-preserved : goal.loop-form-preserved
loop-form-preserved c = GrowsBy-more _ _ _ _ _ _ _ c.loop-form-test.true c.loop-form.invariant record {
  part = c.usage_character.result.now;
  shows = c.usage_character.ensures;
  grew = c.in_ok-add.ensures;
}
