use Rattle.ld_explain.proofs.Names.{AreGates, subst, sym, view_of}
use Rattle.ld_explain.proofs.ExplainingLemmas.{gates-nowhere}
use Rattle.ld_explain.proofs.explainer.Explainer.gates.Goals as goal

pub returns-then-not-may_have_gates : goal.returns-then-not-may_have_gates
returns-then-not-may_have_gates c =
    subst (AreGates (view_of c.args.self.now.naming c.args.self.now.traces.now) c.args.self.now.keys.now c.args.walk.now) (sym c.new-gates.ensures.items)
    (gates-nowhere (view_of c.args.self.now.naming c.args.self.now.traces.now) c.args.walk.now (c.may_have_gates.ensures c.if-not-may_have_gates.true) c.args.self.now.keys.now)
