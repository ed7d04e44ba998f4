use Rattle.ld_explain.proofs.Names.{◌↔◌, ◌≤◌, Contains, IsGateBefore, key_by, length, ℕ}
use Rattle.ld_explain.proofs.guard.gates_before.Given as goal

-- the gates among the locks so far, and no more than there are of these
abbrev pub invariant-loop-i : goal.invariant-loop-i
invariant-loop-i l =
    ((key : ℕ) → Contains l.gates.items key ↔ IsGateBefore (key_by l.naming) l.chain l.i key) × (length l.gates.items ≤ l.i)
