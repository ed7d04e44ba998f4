use Rattle.ld_explain.proofs.Names.{◌<◌, IsLoneMember, Kind, ℕ}
use Rattle.ld_explain.proofs.asker.Asker.member_from.Given as goal

-- none leads to a lock so far
abbrev pub invariant-loop-to : goal.invariant-loop-to
invariant-loop-to l = (to : ℕ) (kind : Kind) → to < l.to → ¬ IsLoneMember l.self l.walk l.from to kind
