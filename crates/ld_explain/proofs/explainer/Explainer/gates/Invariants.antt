use Rattle.ld_explain.proofs.Names.{AreGates, take, view_of}
use Rattle.ld_explain.proofs.explainer.Explainer.gates.Given as goal

-- those of the keys so far
abbrev pub invariant-loop-key : goal.invariant-loop-key
invariant-loop-key l = AreGates (view_of l.self.naming l.self.traces.now) (take l.key-index l.self.keys.now) l.walk l.gates.items
