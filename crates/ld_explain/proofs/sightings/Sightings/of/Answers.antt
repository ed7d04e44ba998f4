use Rattle.ld_explain.proofs.Names.{[], ◌∷◌, ◌≤◌, AreOriginsOf, Event, List, OriginParts, ap, arith, length, subst, sym, take-item, take_all, view_of}
use Rattle.ld_explain.specs.Findings.{Are}
use Rattle.ld_explain.proofs.ChoosingLemmas.{Are-more}
use Rattle.ld_explain.proofs.VerdictLemmas.{Are-length}
use Rattle.ld_explain.proofs.sightings.Sightings.of.Goals as goal

pub loop-trace-init : goal.loop-trace-init
unfolding Are
loop-trace-init c = c.new-each.ensures.items

pub loop-trace-preserved : goal.loop-trace-preserved
loop-trace-preserved c =
    let R : List Event → OriginParts → Type 0 = λ t parts. AreOriginsOf (view_of c.args.naming (t ∷ [])) c.args.asked.now parts in
    subst (λ ts. Are R ts c.push.new.self.items) (sym (take-item c.args.traces.now c.loop-trace.trace-index _ c.trace-item.is c.loop-trace-test.true))
    (subst (Are R _) (sym c.in_ok-push.ensures.items) (Are-more R _ _ _ _ c.loop-trace.invariant c.in_ok-origins_in.ensures))

pub invariant_of-result : goal.invariant_of-result
invariant_of-result c =
    let past : length c.args.traces.now ≤ c.loop-trace.trace-index = omega (arith, c.loop-trace-test.false) in
    let long = Are-length _ _ _ c.loop-trace.invariant in
    let whole = take_all c.loop-trace.trace-index c.args.traces.now past in
    omega (arith, long, ap length whole, c.requires.few)
