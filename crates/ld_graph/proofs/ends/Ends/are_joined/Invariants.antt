use Rattle.ld_graph.proofs.Names.{◌<◌, Joined, ℕ}
use Rattle.ld_graph.proofs.ends.Ends.are_joined.Given as goal

-- none of the states so far
abbrev pub invariant-loop-i : goal.invariant-loop-i
invariant-loop-i l = (n : ℕ) → n < l.i → ¬ Joined l.sources l.targets l.self n
