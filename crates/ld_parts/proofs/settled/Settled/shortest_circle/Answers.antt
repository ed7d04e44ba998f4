use Rattle.ld_parts.proofs.Names.{◌↔◌, ◌∙◌, Arrow, FactParts, HasFact, IsNone, OnCircle, ap, facts_in, subst, sym}
use Rattle.ld_parts.proofs.settled.Settled.shortest_circle.Goals as goal

pub returns-in-One-clause-none : goal.returns-in-One-clause-none
returns-in-One-clause-none c =
    subst (λ (facts : FactParts). IsNone c.shortest_circle.result ↔ ((d : Arrow) → ¬ OnCircle (HasFact facts) d))
    (sym (ap facts_in c.in-One.is) ∙ c.self.view_is) c.shortest_circle.ensures.none

pub returns-in-ByRank-clause-none : goal.returns-in-ByRank-clause-none
returns-in-ByRank-clause-none c =
    subst (λ (facts : FactParts). IsNone c.shortest_circle-in-ByRank.result ↔ ((d : Arrow) → ¬ OnCircle (HasFact facts) d))
    (sym (ap facts_in c.in-ByRank.is) ∙ c.self.view_is) c.shortest_circle-in-ByRank.ensures.none
