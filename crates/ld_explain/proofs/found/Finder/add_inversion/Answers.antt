use Rattle.ld_explain.proofs.Names.{refl}
use Rattle.ld_explain.proofs.FindingLemmas.{AddsThose-off, AddsThose-on}
use Rattle.ld_explain.proofs.found.Finder.add_inversion.Goals as goal

pub returns-in_ok-push : goal.returns-in_ok-push
returns-in_ok-push c = AddsThose-on _ _ _ _ (rw (c.get.ensures.value, c.get-2.ensures.value) at (c.if-is_inversion.ensures.0 refl)) c.in_ok-push.ensures.items

pub returns-else-is_inversion : goal.returns-else-is_inversion
returns-else-is_inversion c = AddsThose-off _ _ _
    (λ holds. let shown = c.if-is_inversion.ensures.1 (rw (c.get.ensures.value, c.get-2.ensures.value) holds) in cc)
