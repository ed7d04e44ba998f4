use Rattle.ld_parts.proofs.Names.{◌∙◌, ap, facts_in, refl, sym}
use Rattle.ld_parts.proofs.Pairs.{pair_of_all, pair_of_part}
use Rattle.ld_parts.proofs.settled.Settled.pair.Goals as goal

pub returns-in-One-clause-some : goal.returns-in-One-clause-some
returns-in-One-clause-some c =
    rw (← (sym (ap facts_in c.in-One.is) ∙ c.self.view_is)) (pair_of_all _ c.args.a c.args.b)

pub returns-in_ok-part-in-ByRank-clause-some : goal.returns-in_ok-part-in-ByRank-clause-some
returns-in_ok-part-in-ByRank-clause-some c =
    rw (← (sym (ap facts_in c.in-ByRank.is) ∙ c.self.view_is))
    (pair_of_part c.in-ByRank.graph c.in_ok-part-in-ByRank.part.now _ c.deref.result _ _ refl c.deref.ensures.value c.args.a c.args.b c.in_ok-part-in-ByRank.ensures.some)
