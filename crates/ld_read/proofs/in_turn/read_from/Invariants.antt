use Rattle.ld_read.proofs.Names.{◌++◌, ◌+◌, ◌≡◌, Event, List, length}
use Rattle.ld_read.specs.Reading.{AreRead}
use Rattle.ld_read.proofs.in_turn.read_from.Given as goal

-- the traces before this place were read
abbrev pub invariant-loop-place : goal.invariant-loop-place
invariant-loop-place g l =
    ((added : List (List Event)) × (l.traces.items ≡ l.fn.traces.items ++ added) × (l.first + length added ≡ l.place)
    × AreRead l.fn.keys.room (g.S.Sources.holds l.sources) l.first l.fn.keys.names l.keys.names added)
    × (l.keys.room ≡ l.fn.keys.room)
