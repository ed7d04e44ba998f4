use Rattle.ld_explain.proofs.Names.{◌≡◌, Adds, HasFact, IsMember, take}
use Rattle.ld_explain.proofs.choices.ask_walk.Given as goal

-- the members so far are asked about
abbrev pub invariant-loop-d : goal.invariant-loop-d
invariant-loop-d l = (l.asked.keys ≡ l.initial.asked.keys) × Adds (HasFact l.initial.asked) (HasFact l.asked) (IsMember (take l.d-index l.walk))
