use Rattle.ld_parts.proofs.Names.{◌↔◌, All, HasFact, IsClean, IsTrue, subst, sym}
use Rattle.ld_parts.proofs.Parts.{clean_parts}
use Rattle.ld_parts.proofs.parted_graph.PartedGraph.is_clean.Goals as goal

pub returns : goal.returns
returns c =
    subst (λ v. IsTrue c.are_clean.result ↔ IsClean (HasFact v)) c.self.view_is (
      (λ h. (clean_parts c.self.inside.facts c.self.inside.parts.items c.self.inside.homes.items c.self.invariant).0
          (subst (All (λ part. IsClean (HasFact part.graph.facts))) c.deref.ensures.value (c.are_clean.ensures.0 h))),
      (λ clean. c.are_clean.ensures.1
          (subst (All (λ part. IsClean (HasFact part.graph.facts))) (sym c.deref.ensures.value) ((clean_parts c.self.inside.facts c.self.inside.parts.items c.self.inside.homes.items c.self.invariant).1 clean))),
    )
