use Rattle.std.proofs.Common.{◌+◌, ◌<◌, slice_index, ℕ}
use Rattle.ld_schedule.proofs.judging.ascend.Given as goal

abbrev pub invariant-loop-next : goal.invariant-loop-next
invariant-loop-next l = (k : ℕ) → k + 1 < l.next → slice_index l.list k < slice_index l.list (k + 1)
