use Rattle.ld_explain.proofs.Names.{◌+◌, ◌-◌, ◌≡◌, AreTakenIn, Event, IsPlacedAfter, List, SeenFrom, SeenTo, Some, chain, slice_get, view_of}
use Rattle.ld_explain.proofs.evidence.Evidence.add_chain.Given as goal

-- the occurrences in the last slots are taken in
abbrev pub invariant-loop-passed : goal.invariant-loop-passed
invariant-loop-passed l =
    (l.self.origins.keys ≡ l.initial.self.origins.keys)
    × (l.self.guards.keys ≡ l.initial.self.guards.keys)
    × ((traces : List (List Event)) (t : List Event) → slice_get traces l.trace ≡ Some t → IsPlacedAfter t (l.place + 1) l.state →
    chain t l.place ≡ Some l.chain → AreTakenIn (view_of l.naming traces) l.asked (SeenTo (view_of l.naming traces) l.trace l.place) l.initial.self.origins l.initial.self.guards →
    AreTakenIn (view_of l.naming traces) l.asked (SeenFrom (view_of l.naming traces) t l.trace l.place l.chain (l.slots - l.passed)) l.self.origins l.self.guards)
