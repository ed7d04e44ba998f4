use Rattle.ld_text.proofs.Names.{◌↔◌, Any, GrowsBy, HasFact, InTurn, IsFoundArrow, IsTrue, ShowsEdge, arrow, take}
use Rattle.ld_text.proofs.picture.PictureView.add_edges_to.Given as goal

-- the lines of the kinds so far, and whether one of these is part of a finding
abbrev pub invariant-loop-kind : goal.invariant-loop-kind
invariant-loop-kind l = record {
  text : GrowsBy (InTurn (λ kind. ShowsEdge (HasFact l.self.settled.now) l.self.names.now.names l.self.only (arrow l.from l.to kind)) (take l.kind-index l.kind-items)) l.initial.text.items l.text.items;
  leads : IsTrue l.any ↔ Any (λ kind. IsFoundArrow (HasFact l.self.settled.now) (arrow l.from l.to kind)) (take l.kind-index l.kind-items);
}
