use Rattle.ld_explain.proofs.Names.{AreOrders, take, view_of}
use Rattle.ld_explain.proofs.explainer.Explainer.orders.Given as goal

-- the members so far
abbrev pub invariant-loop-d : goal.invariant-loop-d
invariant-loop-d l = AreOrders (view_of l.self.naming l.self.traces.now) (take l.d-index l.walk) l.orders.items
