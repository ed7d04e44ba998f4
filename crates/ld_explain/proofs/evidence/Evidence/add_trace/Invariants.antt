use Rattle.ld_explain.proofs.Names.{◌≡◌, AreTakenIn, Event, IsPlacedAfter, List, SeenBefore, SeenTo, Some, slice_get, view_of}
use Rattle.ld_explain.proofs.evidence.Evidence.add_trace.Given as goal

-- the occurrences that the events so far give are taken in
abbrev pub invariant-loop-place : goal.invariant-loop-place
invariant-loop-place l =
    (l.self.origins.keys ≡ l.initial.self.origins.keys)
    × (l.self.guards.keys ≡ l.initial.self.guards.keys)
    × IsPlacedAfter l.trace l.place l.state
    × ((traces : List (List Event)) → slice_get traces l.number ≡ Some l.trace →
    AreTakenIn (view_of l.naming traces) l.asked (SeenBefore (view_of l.naming traces) l.number) l.initial.self.origins l.initial.self.guards →
    AreTakenIn (view_of l.naming traces) l.asked (SeenTo (view_of l.naming traces) l.number l.place) l.self.origins l.self.guards)
