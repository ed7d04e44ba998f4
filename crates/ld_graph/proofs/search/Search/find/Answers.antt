use Rattle.ld_graph.proofs.Names.{◌+◌, ◌-◌, ◌<◌, ◌∙◌, ◌≡◌, AreSteps, FindsGoal, ap, arith, arrival, length, refl, subst, suc, sym}
use Rattle.ld_facts.specs.Inside.Rows.{arrow_of}
use Rattle.ld_graph.proofs.Searches.{AreSteps-start, AreSteps-next, NoGoalBy-steps, NoGoalBy-done}
use Rattle.ld_graph.proofs.search.Search.find.Goals as goal

pub loop-length-init : goal.loop-length-init
loop-length-init c = record {
  steps = AreSteps-start c.args.facts.now c.args.within.now c.args.goal.now c.args.start c.restart.new.self c.restart.ensures.steps c.restart.ensures.seen;
  order = omega arith;
  some = let e = ap length c.restart.ensures.steps in omega arith;
}

pub returns-then-first-end-clause-none : goal.returns-then-first-end-clause-none
returns-then-first-end-clause-none c = λ _ n l.
    let e : c.loop-length.first ≡ length c.loop-length.self.steps = c.if-first-end.true ∙ c.len-end.ensures.value ∙ ap (λ v. length v.steps) c.self.view_is in
    NoGoalBy-done c.args.facts.now c.args.within.now c.args.goal.now (arrival (arrow_of c.args.start)) (c.loop-length.length - 1) c.loop-length.first (length c.loop-length.self.steps) c.loop-length.self
    (subst (λ k. AreSteps c.args.facts.now c.args.within.now c.args.goal.now (arrival (arrow_of c.args.start)) (c.loop-length.length - 1) c.loop-length.first (length c.loop-length.self.steps) k c.loop-length.self)
    e c.loop-length.invariant.steps) n

pub returns-then-round-clause-some : goal.returns-then-round-clause-some
returns-then-round-clause-some c =
    let e : length c.loop-length.self.steps ≡ c.len-end.result = sym (c.len-end.ensures.value ∙ ap (λ v. length v.steps) c.self.view_is) in
    let low = c.loop-length.auto.length in
    let n : suc (c.loop-length.length - 1) ≡ c.loop-length.length = omega arith in
    let are = c.loop-length.invariant.steps in
    let (finds, root) = c.if-round.ensures.hit refl (arrival (arrow_of c.args.start)) (c.loop-length.length - 1)
    (subst (λ k. AreSteps c.args.facts.now c.args.within.now c.args.goal.now (arrival (arrow_of c.args.start)) (c.loop-length.length - 1) c.loop-length.first k c.loop-length.first c.loop-length.self) e are) in (
      omega arith,
      c.loop-length-test.true,
      subst (λ k. FindsGoal c.args.facts.now c.args.goal.now k c.round.new.self) n finds,
      root,
      λ m l. NoGoalBy-steps c.args.facts.now c.args.within.now c.args.goal.now (arrival (arrow_of c.args.start)) (c.loop-length.length - 1) c.loop-length.first
          (length c.loop-length.self.steps) c.loop-length.first c.loop-length.self are m (omega arith),
    )

pub loop-length-preserved : goal.loop-length-preserved
loop-length-preserved c =
    let e : length c.loop-length.self.steps ≡ c.len-end.result = sym (c.len-end.ensures.value ∙ ap (λ v. length v.steps) c.self.view_is) in
    let low = c.loop-length.auto.length in
    let n : suc (c.loop-length.length - 1) ≡ c.loop-length.length + 1 - 1 = omega arith in
    let some : 0 < c.len-end.result = let s = c.loop-length.invariant.some in omega arith in
    let are = c.if-round.ensures.missed refl (arrival (arrow_of c.args.start)) (c.loop-length.length - 1)
    (subst (λ k. AreSteps c.args.facts.now c.args.within.now c.args.goal.now (arrival (arrow_of c.args.start)) (c.loop-length.length - 1) c.loop-length.first k c.loop-length.first c.loop-length.self) e c.loop-length.invariant.steps) in
    let next = AreSteps-next c.args.facts.now c.args.within.now c.args.goal.now (arrival (arrow_of c.args.start)) (c.loop-length.length - 1) c.loop-length.first c.len-end.result c.round.new.self some are in record {
      steps = subst (λ k. AreSteps c.args.facts.now c.args.within.now c.args.goal.now (arrival (arrow_of c.args.start)) k c.len-end.result (length c.round.new.self.steps) c.len-end.result c.round.new.self) n next;
      order = are.within_steps;
      some = let w = are.within_steps in omega arith;
    }

pub returns-clause-none : goal.returns-clause-none
returns-clause-none c = λ _ n l.
    let low = c.loop-length.auto.length in
    NoGoalBy-steps c.args.facts.now c.args.within.now c.args.goal.now (arrival (arrow_of c.args.start)) (c.loop-length.length - 1) c.loop-length.first (length c.loop-length.self.steps) c.loop-length.first c.loop-length.self
    c.loop-length.invariant.steps n (let t = c.loop-length-test.false in omega arith)
