use Rattle.ld_text.proofs.Names.{◌<◌, ◌↔◌, ◌≡◌, ◌⊎◌, Any, GrowsBy, HasFact, InTurn, IsTrue, Leads, ShowsEdge, arrow, false, kinds, length, slice_index, slice_index_or, take, ℕ}
use Rattle.ld_text.proofs.picture.PictureView.add_edges.Given as goal

-- the lines from the keys so far; these are marked if one leads from them, and all that one of them leads to
abbrev pub invariant-loop-n : goal.invariant-loop-n
invariant-loop-n l = record {
  text : GrowsBy (InTurn (λ from. InTurn (λ to. InTurn (λ kind. ShowsEdge (HasFact l.self.settled.now) l.self.names.now.names l.self.only (arrow from to kind)) kinds) l.self.keys.now) (take l.n l.self.keys.now)) l.initial.text.items l.text.items;
  len : length l.marks.items ≡ length l.self.keys.now;
  each : (k : ℕ) → k < length l.self.keys.now → IsTrue (slice_index_or l.marks.items k false)
      ↔ (((k < l.n) × Any (Leads (HasFact l.self.settled.now) (slice_index l.self.keys.now k)) l.self.keys.now)
      ⊎ Any (λ a. Leads (HasFact l.self.settled.now) a (slice_index l.self.keys.now k)) (take l.n l.self.keys.now));
}
