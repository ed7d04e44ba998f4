use Rattle.ld_explain.proofs.Names.{All, IsLoneInversion, take}
use Rattle.ld_explain.proofs.asker.Asker.inversion_from.Given as goal

-- no lock so far is the second of one
abbrev pub invariant-loop-other : goal.invariant-loop-other
invariant-loop-other l = All (λ other. ¬ IsLoneInversion l.self l.irq l.a l.b l.lock other) (take l.other-index l.self.keys.now)
