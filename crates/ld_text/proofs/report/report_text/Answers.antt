use Rattle.ld_text.proofs.Names.{[], ◌++◌, ◌∙◌, ◌≡◌, GrowsBy, List, ap, subst, sym, ℕ}
use Rattle.ld_text.proofs.GroupLemmas.{GrowsBy-then}
use Rattle.ld_text.proofs.report.report_text.Goals as goal

-- what grew from nothing
whole : (P : List ℕ → Type 0) (old new : List ℕ) → old ≡ [] → GrowsBy P old new → P new
whole P old new none by = subst P (sym (by.grew ∙ ap (λ t. t ++ by.part) none)) by.shows

pub returns : goal.returns
returns c = record {
  keys = c.in_ok-keys.keys.items;
  keys_are = c.in_ok-keys.ensures;
  found = c.in_ok-found.found;
  found_are = rw c.as_slice-keys.ensures.value at c.in_ok-found.ensures;
  text_is = rw c.as_slice-keys.ensures.value at (whole _ _ _ c.new-text.ensures.bytes
      (GrowsBy-then _ _ _ _ _ c.in_ok-add_totals.ensures
      (GrowsBy-then _ _ _ _ _ c.in_ok-add_usage.ensures c.in_ok-add_findings.ensures)));
}
