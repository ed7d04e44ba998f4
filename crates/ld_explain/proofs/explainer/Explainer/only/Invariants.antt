use Rattle.ld_explain.proofs.Names.{◌≡◌, IsAloneIn, Some, take, view_of, ℕ}
use Rattle.ld_explain.proofs.explainer.Explainer.only.Given as goal

-- the trace has the members so far alone
abbrev pub invariant-loop-d : goal.invariant-loop-d
invariant-loop-d l = (trace : ℕ) → l.only ≡ Some trace → IsAloneIn (view_of l.self.naming l.self.traces.now) (take l.d-index l.walk) trace
