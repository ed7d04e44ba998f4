use Rattle.ld_explain.proofs.Names.{[], AddsThose, IsGate, take, view_of}
use Rattle.ld_explain.proofs.explainer.Explainer.guarded.Given as goal

-- those of the members so far
abbrev pub invariant-loop-d : goal.invariant-loop-d
invariant-loop-d l = AddsThose (λ d. IsGate (view_of l.self.naming l.self.traces.now) d l.gate) (take l.d-index l.walk) [] l.guarded.items
