use Rattle.ld_trace.proofs.Names.{◌++◌, ◌≡◌, Leads, List, length, take, ℕ}
use Rattle.ld_trace.specs.TakingIn.{with_all}
use Rattle.ld_trace.proofs.taking_in.take_in_names.Given as goal

-- the names before this place were taken in
abbrev pub invariant-loop-place : goal.invariant-loop-place
invariant-loop-place l =
    Leads l.own.names l.by l.keys.names
    × (length l.by ≡ l.place)
    × (l.keys.names ≡ with_all l.fn.keys.names (take l.place l.own.names))
    × ((added : List ℕ) × (l.by ≡ l.fn.by ++ added))
    × (l.keys.room ≡ l.fn.keys.room)
