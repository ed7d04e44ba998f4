use Rattle.ld_trace.proofs.Names.{[], ◌≡◌, ◌≤◌, Leads, MAX_KEYS, length, map, name_by, take}
use Rattle.ld_trace.specs.TakingIn.{with_all}
use Rattle.ld_trace.proofs.renaming.Renaming.of.Given as goal

-- the names before this place have their numbers
abbrev pub invariant-loop-place : goal.invariant-loop-place
invariant-loop-place l =
    Leads (map (name_by l.level) l.table.names) l.keys.items l.names.names
    × (length l.keys.items ≡ l.place)
    × (l.names.names ≡ with_all [] (take l.place (map (name_by l.level) l.table.names)))
    × (length l.names.names ≤ l.place)
    × (l.names.room ≡ MAX_KEYS)
