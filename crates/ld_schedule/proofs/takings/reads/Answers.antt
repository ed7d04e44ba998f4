use Rattle.ld_schedule.proofs.Names.{All, All-more, IsReading, IsReadingStep, List, MatchBool-at_false, Step, Take, arith, get_or, subst, take_all, ◌≡◌, ℕ}
use Rattle.ld_schedule.proofs.Reading.{action_read, task_read}
use Rattle.ld_schedule.proofs.takings.reads.Goals as goal
use Rattle.ld_schedule.proofs.takings.reads.Goals.{else-holder-task-via-then-holder-task+else-takes_as_reader, else-holder-task-via-else-holder-task}

of_another : (h : List Step) (task q : ℕ) (d : Step) → ((get_or h q d).task ≡ task → ⊥) → ¬ IsReading h task q
of_another h task q d differ (lock, mode, (wait, does), _) = differ (task_read h q task d (Take lock mode wait) does)

no_reading : (h : List Step) (task q : ℕ) (d : Step) → ¬ IsReadingStep (get_or h q d) → ¬ IsReading h task q
no_reading h task q d none (lock, mode, (wait, does), reader) =
    none (lock, mode, wait, action_read h q task d (Take lock mode wait) does, reader)

pub loop-q-preserved : goal.loop-q-preserved
loop-q-preserved c =
    All-more (λ q. ¬ IsReading c.args.steps.now c.args.task q) c.args.held.now c.loop-q.q-index 0 c.loop-q-test.true c.loop-q.invariant
    (elim c.else-holder-task.branch [
      | else-holder-task-via-then-holder-task+else-takes_as_reader w ↦
          no_reading c.args.steps.now c.args.task _ _ (MatchBool-at_false _ _ w.if-takes_as_reader.false w.takes_as_reader.ensures)
      | else-holder-task-via-else-holder-task w ↦ of_another c.args.steps.now c.args.task _ _ w.if-holder-task.false
    ])

pub returns : goal.returns
returns c =
    subst (All (λ q. ¬ IsReading c.args.steps.now c.args.task q)) (take_all c.loop-q.q-index c.args.held.now (omega arith)) c.loop-q.invariant
