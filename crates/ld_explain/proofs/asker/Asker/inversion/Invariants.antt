use Rattle.ld_explain.proofs.Names.{All, Contains, IsLoneInversion, take, ℕ}
use Rattle.ld_explain.proofs.asker.Asker.inversion.Given as goal

-- no lock so far is the first of one
abbrev pub invariant-loop-lock : goal.invariant-loop-lock
invariant-loop-lock l =
    All (λ k. (other : ℕ) → Contains l.self.keys.now other → ¬ IsLoneInversion l.self l.irq l.a l.b k other) (take l.lock-index l.self.keys.now)
