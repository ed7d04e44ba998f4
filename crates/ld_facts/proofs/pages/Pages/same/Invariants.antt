use Rattle.ld_facts.proofs.Names.{◌<◌, ◌≡◌, slice_index, ℕ}
use Rattle.ld_facts.proofs.pages.Pages.same.Given as goal

abbrev pub invariant-loop-i : goal.invariant-loop-i
invariant-loop-i l = (k : ℕ) → k < l.i → slice_index l.self k ≡ slice_index l.other k
