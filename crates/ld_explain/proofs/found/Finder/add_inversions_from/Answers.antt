use Rattle.ld_explain.proofs.FindingLemmas.{AddsThose-map_never, AddsThose-map_next_item}
use Rattle.ld_explain.proofs.found.Finder.add_inversions_from.Goals as goal

pub returns-then-not-is_used_in : goal.returns-then-not-is_used_in
returns-then-not-is_used_in c =
    AddsThose-map_never _ (λ b. (c.args.irq, (c.args.a, b))) (c.is_used_in.ensures (let no_one = c.if-not-is_used_in.true in cc)) c.args.self.keys.now _

pub loop-b-preserved : goal.loop-b-preserved
loop-b-preserved c = AddsThose-map_next_item _ _ _ _ _ _ _ _ c.b-item.is c.loop-b-test.true c.loop-b.invariant c.in_ok-add_inversion.ensures
