use Rattle.ld_explain.proofs.Names.{All, IsLoneDouble, take}
use Rattle.ld_explain.proofs.asker.Asker.double.Given as goal

-- no lock so far is one
abbrev pub invariant-loop-lock : goal.invariant-loop-lock
invariant-loop-lock l = All (λ k. ¬ IsLoneDouble l.self l.irq l.key k) (take l.lock-index l.self.keys.now)
