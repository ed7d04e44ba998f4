use Rattle.ld_parts.proofs.Names.{◌<◌, ◌≡◌, slice_index, ℕ}
use Rattle.ld_parts.proofs.home.place_in.Given as goal

-- none so far is the key
abbrev pub invariant-loop-place : goal.invariant-loop-place
invariant-loop-place l = (k : ℕ) → k < l.place → ¬ (slice_index l.keys k ≡ l.key)
