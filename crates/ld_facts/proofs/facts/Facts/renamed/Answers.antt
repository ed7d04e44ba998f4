use Rattle.ld_facts.proofs.Names.{◌≡◌, Adds, FactBelow, HasFact, fact_number, refl, subst}
use Rattle.ld_facts.proofs.Renaming.{IsRenamed-all, IsRenamed-more}
use Rattle.ld_facts.proofs.facts.Facts.renamed.Goals as goal

pub loop-number-preserved : goal.loop-number-preserved
loop-number-preserved c =
    let (onwards, within, on, first) = c.in-Some.ensures.some in
    IsRenamed-more c.args.self.now c.loop-number.renamed c.args.keys c.args.others.now c.add_if_below.new.self c.loop-number.n c.in-Some.number
    c.of_number-fact.result c.loop-number.invariant onwards within on first
    (subst (λ k. FactBelow k c.of_number-fact.result) c.keys.ensures.value c.of_number-fact.ensures.below)
    (subst (λ k. fact_number k c.of_number-fact.result ≡ c.in-Some.number) c.keys.ensures.value c.of_number-fact.ensures.number)
    c.add_if_below.ensures.keys
    (subst (λ y. Adds (HasFact c.loop-number.renamed) (HasFact c.add_if_below.new.self) (λ x. FactBelow c.loop-number.renamed.keys x × (x ≡ y)))
    c.at_places.ensures c.add_if_below.ensures.adds)

pub returns-clause-exact : goal.returns-clause-exact
returns-clause-exact c =
    IsRenamed-all c.args.self.now c.loop-number.renamed c.args.keys c.args.others.now c.loop-number.n c.loop-number.invariant (c.in_default.ensures.none refl)
