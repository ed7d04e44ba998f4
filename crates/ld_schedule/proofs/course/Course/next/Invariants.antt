use Rattle.std.proofs.Common.{vec_len}
use Rattle.ld_schedule.proofs.course.Course.next.Given as goal

abbrev pub decreases-loop-task : goal.decreases-loop-task
decreases-loop-task l = vec_len l.grown
