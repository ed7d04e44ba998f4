use Rattle.std.proofs.Common.{◌≡◌}
use Rattle.tests_low.proofs.graphs.facts.unite_words.Given as goal

abbrev pub invariant-loop-i : goal.invariant-loop-i
invariant-loop-i l = l.facts.keys ≡ l.initial.facts.keys
