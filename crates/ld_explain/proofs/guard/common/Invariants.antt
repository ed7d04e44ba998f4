use Rattle.ld_explain.proofs.Names.{◌≡◌, ◌≤◌, filter, is_among, length, take}
use Rattle.ld_explain.proofs.guard.common.Given as goal

-- the keys so far that are in both, and no more than were seen
abbrev pub invariant-loop-i : goal.invariant-loop-i
invariant-loop-i l =
    (l.both.items ≡ filter (is_among l.b.items) (take l.i l.a.items)) × (length l.both.items ≤ l.i)
