use Rattle.ld_explain.proofs.Names.{◌≡◌, AreTakenIn, SeenBefore, view_of}
use Rattle.ld_explain.proofs.evidence.Evidence.of.Given as goal

-- the occurrences in the traces so far are taken in
abbrev pub invariant-loop-i : goal.invariant-loop-i
invariant-loop-i l =
    (l.evidence.origins.keys ≡ l.asked.keys)
    × (l.evidence.guards.keys ≡ l.asked.keys)
    × AreTakenIn (view_of l.naming l.traces) l.asked (SeenBefore (view_of l.naming l.traces) l.i) l.evidence.origins l.evidence.guards
