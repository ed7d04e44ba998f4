use Rattle.ld_explain.proofs.FindingLemmas.{AddsThose-off}
use Rattle.ld_explain.proofs.found.Finder.add_double.Goals as goal

pub returns-else-is_double : goal.returns-else-is_double
returns-else-is_double c = AddsThose-off _ _ _ (λ holds. let shown = c.if-is_double.ensures.1 (rw c.get.ensures.value holds) in cc)
