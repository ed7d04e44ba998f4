use Rattle.ld_schedule.proofs.Names.{All, All-more, IsOf, List, Step, arith, get_or, subst, take_all, ◌≡◌, ℕ}
use Rattle.ld_schedule.proofs.Reading.{task_read}
use Rattle.ld_schedule.proofs.takings.place_of.Goals as goal

not_of : (h : List Step) (task q : ℕ) (d : Step) → ((get_or h q d).task ≡ task → ⊥) → ¬ IsOf h task q
not_of h task q d differ (action, does) = differ (task_read h q task d action does)

pub loop-i-preserved : goal.loop-i-preserved
loop-i-preserved c =
    All-more (λ q. ¬ IsOf c.args.steps.now c.args.task q) c.args.held.now c.loop-i.i 0 c.loop-i-test.true c.loop-i.invariant
    (not_of c.args.steps.now c.args.task _ _ c.if-steps-q.false)

pub returns : goal.returns
returns c =
    subst (All (λ q. ¬ IsOf c.args.steps.now c.args.task q)) (take_all c.loop-i.i c.args.held.now (omega arith)) c.loop-i.invariant
