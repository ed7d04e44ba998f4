use Rattle.ld_explain.proofs.Names.{◌≡◌, take}
use Rattle.ld_explain.proofs.choices.members.Given as goal

-- the members so far
abbrev pub invariant-loop-i : goal.invariant-loop-i
invariant-loop-i l = l.members.items ≡ take l.i l.walk
