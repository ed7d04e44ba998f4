use Rattle.ld_graph.proofs.Names.{◌≡◌, AreSteps, arith, refl, subst}
use Rattle.ld_graph.proofs.Searches.{AreSteps-expanded, FindsGoal-hit}
use Rattle.ld_graph.proofs.search.Search.round.Goals as goal

pub returns-then-expand-clause-hit : goal.returns-then-expand-clause-hit
returns-then-expand-clause-hit c = λ _ start n are.
    FindsGoal-hit c.args.facts.now c.loop-i.i c.loop-i.self c.expand.new.self c.expand.ensures.takes c.args.within.now c.args.goal.now start n c.args.first c.args.end
    (c.loop-i.invariant.steps start n are) (let a = c.loop-i.auto.i in a) c.loop-i-test.true (c.if-expand.ensures.hit refl)

pub loop-i-preserved : goal.loop-i-preserved
loop-i-preserved c = record {
  steps = λ start n are.
      let (misses, sees) = c.if-expand.ensures.missed refl in
      AreSteps-expanded c.args.facts.now c.loop-i.i c.loop-i.self c.expand.new.self c.expand.ensures.takes c.args.within.now c.args.goal.now start n c.args.first c.args.end
      (c.loop-i.invariant.steps start n are) (let a = c.loop-i.auto.i in a) c.loop-i-test.true misses sees;
  longer = let a = c.loop-i.invariant.longer in let b = c.expand.ensures.takes.longer in omega arith;
}

pub returns-clause-missed : goal.returns-clause-missed
returns-clause-missed c = λ _ start n are.
    let most = c.loop-i.auto.i-end in
    let e : c.loop-i.i ≡ c.args.end = let l = c.loop-i-test.false in let o = c.requires.order in omega arith in
    subst (λ i. AreSteps c.args.facts.now c.args.within.now c.args.goal.now start n c.args.first c.args.end i c.loop-i.self) e (c.loop-i.invariant.steps start n are)
