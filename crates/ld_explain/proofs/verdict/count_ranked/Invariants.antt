use Rattle.ld_explain.proofs.Names.{◌==◌, ◌≡◌, ◌≤◌, count_by, rank, take}
use Rattle.ld_explain.proofs.verdict.count_ranked.Given as goal

-- the verdicts so far were counted
abbrev pub invariant-loop-v : goal.invariant-loop-v
invariant-loop-v l = (l.count ≡ count_by (λ w. rank w == l.rank) (take l.v-index l.verdicts)) × (l.count ≤ l.v-index)
