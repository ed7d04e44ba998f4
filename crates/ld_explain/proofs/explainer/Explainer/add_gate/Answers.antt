use Rattle.ld_explain.proofs.Names.{arith, refl, view_of}
use Rattle.ld_explain.proofs.ExplainingLemmas.{gates-more, gates-pass}
use Rattle.ld_explain.proofs.explainer.Explainer.add_gate.Goals as goal

pub returns-then-len-lt-MIN_GUARDED : goal.returns-then-len-lt-MIN_GUARDED
returns-then-len-lt-MIN_GUARDED c keys were =
    gates-pass (view_of c.args.self.now.naming c.args.self.now.traces.now) c.args.walk.now keys c.args.key c.in_ok-guarded.guarded.items c.in_ok-guarded.ensures _ were
    (omega (arith, c.if-len-lt-MIN_GUARDED.true, c.len.ensures))

pub returns : goal.returns
returns c keys were =
    gates-more (view_of c.args.self.now.naming c.args.self.now.traces.now) c.args.walk.now keys c.args.key c.in_ok-guarded.guarded.items c.in_ok-guarded.ensures _ were
    (omega (arith, c.if-len-lt-MIN_GUARDED.false, c.len.ensures)) _ _ refl refl c.in_ok-push.ensures.items
