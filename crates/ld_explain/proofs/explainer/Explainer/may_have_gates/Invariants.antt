use Rattle.ld_explain.proofs.Names.{All, IsGate, take, view_of, ℕ}
use Rattle.ld_explain.proofs.explainer.Explainer.may_have_gates.Given as goal

-- no key is a gate of a member so far
abbrev pub invariant-loop-d : goal.invariant-loop-d
invariant-loop-d l = All (λ d. (gate : ℕ) → ¬ IsGate (view_of l.self.naming l.self.traces.now) d gate) (take l.d-index l.walk)
