use Rattle.ld_facts.proofs.Names.{◌<◌, ◌≡◌, ◌≤◌, get_or, ℕ}
use Rattle.ld_facts.proofs.chain_words.FactWords.find.Given as goal

-- the word is at this place or before it
abbrev pub invariant-loop-i : goal.invariant-loop-i
invariant-loop-i l = (l.i < l.self-inside.len) × ((j : ℕ) × (j ≤ l.i) × ((get_or l.self-inside.pairs j (0, 0)).0 ≡ l.word))

abbrev pub decreases-loop-i : goal.decreases-loop-i
decreases-loop-i l = l.i
