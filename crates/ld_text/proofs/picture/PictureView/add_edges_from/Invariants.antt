use Rattle.ld_text.proofs.Names.{◌<◌, ◌↔◌, ◌≡◌, ◌≤◌, ◌⊎◌, Any, GrowsBy, HasFact, InTurn, IsTrue, Leads, ShowsEdge, arrow, false, kinds, length, slice_index, slice_index_or, take, ℕ}
use Rattle.ld_text.proofs.picture.PictureView.add_edges_from.Given as goal

-- the lines to the keys so far; these are marked, and the others are as they were
abbrev pub invariant-loop-to : goal.invariant-loop-to
invariant-loop-to l = record {
  text : GrowsBy (InTurn (λ to. InTurn (λ kind. ShowsEdge (HasFact l.self.settled.now) l.self.names.now.names l.self.only (arrow l.from to kind)) kinds) (take l.to l.self.keys.now)) l.initial.text.items l.text.items;
  len : length l.marks ≡ length l.initial.marks;
  done : (k : ℕ) → k < l.to → IsTrue (slice_index_or l.marks k false)
      ↔ (IsTrue (slice_index_or l.initial.marks k false) ⊎ Leads (HasFact l.self.settled.now) l.from (slice_index l.self.keys.now k));
  rest : (k : ℕ) → l.to ≤ k → slice_index_or l.marks k false ≡ slice_index_or l.initial.marks k false;
  any : IsTrue l.any ↔ Any (Leads (HasFact l.self.settled.now) l.from) (take l.to l.self.keys.now);
}
