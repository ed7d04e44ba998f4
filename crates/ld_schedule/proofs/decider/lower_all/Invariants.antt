use Rattle.ld_schedule.proofs.Names.{slice_index, ℕ, ◌<◌, ◌≡◌}
use Rattle.ld_schedule.proofs.decider.lower_all.Given as goal

abbrev pub invariant-loop-k : goal.invariant-loop-k
invariant-loop-k l = (j : ℕ) → j < l.k → slice_index l.cut j ≡ 0
