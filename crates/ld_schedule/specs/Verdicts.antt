-- What is said of a ring of lists of steps.
use Rattle.std.specs.Prelude.{ℕ, List}
use Rattle.ld_schedule.specs.declared.judging.Verdict.{Verdict}
use Rattle.ld_schedule.specs.declared.judging.Verdict.TheVariants.{Possible, NotShown, KeptApart, NotKnown}
use Rattle.ld_schedule.specs.Decisions.{IsStandstill}
use Rattle.ld_schedule.specs.Histories.{HistoryParts, EachLock, IsThread}
use Rattle.ld_schedule.specs.Schedules.{IsReached}

-- possible: tasks stand still there after the schedule that is given; not shown: no schedule comes to a step of each list;
-- kept apart: none does, even if the order of takings is asked of threads' locks alone
abbrev pub IsJudged : HistoryParts → List (List ℕ) → Verdict → Type 0
IsJudged h ring (Possible found) = IsStandstill h.steps ring found
IsJudged h ring (NotShown reason) = ¬ IsReached EachLock h.steps ring
IsJudged h ring (KeptApart reason) = ¬ IsReached (IsThread h.kinds) h.steps ring
IsJudged h ring NotKnown = Unit {0}
