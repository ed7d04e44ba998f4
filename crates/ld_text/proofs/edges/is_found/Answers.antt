use Rattle.ld_text.proofs.PictureGrowing.{says-second}
use Rattle.ld_text.proofs.edges.is_found.Goals as goal

pub returns-else-on_circle : goal.returns-else-on_circle
returns-else-on_circle c = says-second _ _ _
    (λ on. let shown = c.if-on_circle.ensures.1 (rw (c.get-from.ensures.value, c.get-to.ensures.value) on) in cc)
    (rw (c.get-from.ensures.value, c.get-to.ensures.value) at c.in_inversion.ensures)
