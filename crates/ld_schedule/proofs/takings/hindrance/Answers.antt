use Rattle.ld_schedule.proofs.Names.{All, All-more, HoldMode, IsBlockingStep, LeavesFree, List, MatchBool-at_false, Step, Take, arith, get_or, subst, take_all, ◌≡◌, ℕ}
use Rattle.ld_schedule.proofs.Reading.{action_read, task_read}
use Rattle.ld_schedule.proofs.takings.hindrance.Goals as goal

-- a step of another task that doesn't block the mode
leaves_free : (h : List Step) (task : ℕ) (mode : HoldMode) (q : ℕ) (d : Step) → ((get_or h q d).task ≡ task → ⊥) →
    ¬ IsBlockingStep (get_or h q d) mode → LeavesFree h task mode q
leaves_free h task mode q d differ free other lock other_mode (wait, does) = (
  (λ e. differ (let r = task_read h q other d (Take lock other_mode wait) does in cc)),
  (λ blocks. free (lock, other_mode, wait, action_read h q other d (Take lock other_mode wait) does, blocks)),
)

pub loop-q-preserved : goal.loop-q-preserved
loop-q-preserved c =
    All-more (LeavesFree c.args.steps.now c.args.task c.args.mode) c.args.held.now c.loop-q.q-index 0 c.loop-q-test.true c.loop-q.invariant
    (leaves_free c.args.steps.now c.args.task c.args.mode _ _ c.if-holder-task.false (MatchBool-at_false _ _ c.if-blocks.false c.blocks-in-loop-q.ensures))

pub returns : goal.returns
returns c =
    subst (All (LeavesFree c.args.steps.now c.args.task c.args.mode)) (take_all c.loop-q.q-index c.args.held.now (omega arith)) c.loop-q.invariant
