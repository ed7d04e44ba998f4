use Rattle.ld_explain.proofs.Names.{Are, Explains, take, view_of}
use Rattle.ld_explain.proofs.explainer.Explainer.findings.Given as goal

-- the findings of the choices so far
abbrev pub invariant-loop-choice : goal.invariant-loop-choice
invariant-loop-choice l = Are (Explains (view_of l.self.naming l.self.traces.now) l.self.keys.now) (take l.choice-index l.choices) l.findings.items
