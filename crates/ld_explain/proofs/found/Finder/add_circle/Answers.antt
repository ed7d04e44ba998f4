use Rattle.ld_explain.proofs.FindingLemmas.{AddsThose-off}
use Rattle.ld_explain.proofs.found.Finder.add_circle.Goals as goal

pub returns-else-on_circle : goal.returns-else-on_circle
returns-else-on_circle c = AddsThose-off _ _ _
    (λ holds. let shown = c.if-on_circle.ensures.1 (rw (c.get.ensures.value, c.get-2.ensures.value) holds) in cc)
