use Rattle.ld_text.proofs.Names.{◌*◌, ◌++◌, ◌+◌, ◌≡◌, ◌≤◌, ChainParts, List, Name, codes, decimal, flat_map, head_text, length, lock_text, take, ℕ}
use Rattle.ld_text.proofs.chains_text.add_line.Given as goal

-- the line up to its first n held locks
pub record IsLineUpTo (names : List Name) (c : ChainParts) (n : ℕ) (line : List ℕ) : Type 0 where
  pub text : line ≡ head_text names c.new_lock c.flags
      ++ (codes " held " ++ (decimal (length c.held_locks) ++ flat_map (lock_text names) (take n c.held_locks)))
  pub short : length line ≤ 101 + 73 * n

abbrev pub invariant-loop-place : goal.invariant-loop-place
invariant-loop-place l = IsLineUpTo l.names.names l.chain l.place l.line.bytes
