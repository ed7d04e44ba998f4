use Rattle.ld_text.proofs.Names.{[], ◌++◌, ◌∙◌, ◌≡◌, GrowsBy, List, ap, codes, subst, sym, ℕ}
use Rattle.ld_text.proofs.GroupLemmas.{GrowsBy-is, GrowsBy-none, GrowsBy-then}
use Rattle.ld_text.proofs.picture.picture_text.Goals as goal

-- what grew from nothing
whole : (P : List ℕ → Type 0) (old new : List ℕ) → old ≡ [] → GrowsBy P old new → P new
whole P old new none by = subst P (sym (by.grew ∙ ap (λ t. t ++ by.part) none)) by.shows

-- a text that was made apart from the others
apart : (P : List ℕ → Type 0) (none made old new : List ℕ) → none ≡ [] → GrowsBy P none made → new ≡ old ++ made → GrowsBy P old new
apart P none made old new is by grew = record { part = made; shows = whole P none made is by; grew = grew }

pub returns : goal.returns
returns c = record {
  keys = c.in_ok-keys.keys.items;
  keys_are = c.in_ok-keys.ensures;
  found = c.in_ok-found.found;
  found_are = rw c.as_slice-keys.ensures.value at c.in_ok-found.ensures;
  text_is = rw c.as_slice-keys.ensures.value at (whole _ _ _ c.new-text.ensures.items
      (GrowsBy-then _ _ _ _ _ (GrowsBy-is (codes "digraph lockdep {\n  node [shape=box];\n") _ _ c.in_ok-add.ensures)
      (GrowsBy-then _ _ _ _ _ c.in_ok-add_keys.ensures
      (GrowsBy-then _ _ _ _ _ (apart _ _ _ _ _ c.new-edges.ensures.items c.in_ok-joined.ensures.text (rw c.as_slice-2.ensures.value at c.in_ok-add_bytes.ensures))
      (GrowsBy-then _ _ _ _ _ (GrowsBy-is _ _ _ (rw c.doubles.ensures at c.in_ok-add_doubles.ensures))
      (GrowsBy-then _ _ _ _ _ (GrowsBy-is _ _ _ (rw c.inversions.ensures at c.in_ok-add_inversions.ensures))
      (GrowsBy-then _ _ _ _ _ (GrowsBy-is (codes "}\n") _ _ c.in_ok-add-2.ensures) (GrowsBy-none _))))))));
}
