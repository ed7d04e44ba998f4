use Rattle.ld_explain.proofs.Names.{◌∙◌, Adds, HasFact, IsMember, subst, sym, take, take-item}
use Rattle.ld_explain.proofs.ChoosingLemmas.{members-more}
use Rattle.ld_explain.proofs.choices.ask_walk.Goals as goal

pub loop-d-preserved : goal.loop-d-preserved
loop-d-preserved c =
    let old = HasFact c.args.asked.now in
    let new = HasFact c.add.new.self in (
      c.add.ensures.keys ∙ c.loop-d.invariant.0,
      subst (λ ds. Adds old new (IsMember ds)) (sym (take-item c.args.walk.now c.loop-d.d-index _ c.d-item.is c.loop-d-test.true))
          (members-more old (HasFact c.loop-d.asked) new (take c.loop-d.d-index c.args.walk.now) c.d-item.result c.loop-d.invariant.1
          (rw c.fact.ensures.value at c.add.ensures.adds)),
    )
