use Rattle.ld_explain.proofs.Names.{HasFact, inl}
use Rattle.ld_explain.proofs.ChoosingLemmas.{members-all}
use Rattle.ld_explain.proofs.explainer.Explainer.finding.Goals as goal

pub circle-requires-clause-are : goal.circle-requires-clause-are
circle-requires-clause-are c =
    rw c.deref.ensures.value (members-all (HasFact c.args.self.now.asked.now) c.in-ByWalk.walk.items (rw c.in-ByWalk.is at c.requires.among).0)

pub inversion-requires-clause-are : goal.inversion-requires-clause-are
inversion-requires-clause-are c =
    let among = rw c.in-ByBoth.is at c.requires.among in
    rw c.deref-in-ByBoth.ensures.value (members-all (HasFact c.args.self.now.asked.now) c.in-ByBoth.walk.items (λ x member. among.0 x (inl member)))
