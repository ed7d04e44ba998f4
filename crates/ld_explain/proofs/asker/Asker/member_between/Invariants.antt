use Rattle.ld_explain.proofs.Names.{All, IsLoneMember, take}
use Rattle.ld_explain.proofs.asker.Asker.member_between.Given as goal

-- none is of a kind so far
abbrev pub invariant-loop-kind : goal.invariant-loop-kind
invariant-loop-kind l = All (λ kind. ¬ IsLoneMember l.self l.walk l.from l.to kind) (take l.kind-index l.kind-items)
