use Rattle.ld_explain.proofs.Names.{◌<◌, IsLoneMember, Kind, ℕ}
use Rattle.ld_explain.proofs.asker.Asker.member.Given as goal

-- none leads from a lock so far
abbrev pub invariant-loop-from : goal.invariant-loop-from
invariant-loop-from l = (from to : ℕ) (kind : Kind) → from < l.from → ¬ IsLoneMember l.self l.walk from to kind
