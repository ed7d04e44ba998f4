use Rattle.ld_read.proofs.Names.{◌++◌, ◌≡◌, All, AreFrom, Event, IsAhead, List, Option, length, ℕ}
use Rattle.ld_read.specs.Reading.{AreRead}
use Rattle.ld_read.proofs.taking.take_in_all.Given as goal

-- the traces before this place were taken in
abbrev pub invariant-loop-place : goal.invariant-loop-place
invariant-loop-place l =
    All (IsAhead l.keys.names) l.aheads
    × ((holds : ℕ → Option (List ℕ)) → All (AreFrom holds) l.fn.aheads → All (AreFrom holds) l.aheads)
    × ((added : List (List Event)) × (l.traces.items ≡ l.fn.traces.items ++ added) × (length added ≡ l.place)
    × ((holds : ℕ → Option (List ℕ)) → All (AreFrom holds) l.fn.aheads → AreRead l.fn.keys.room holds 0 l.fn.keys.names l.keys.names added))
    × (l.keys.room ≡ l.fn.keys.room)
