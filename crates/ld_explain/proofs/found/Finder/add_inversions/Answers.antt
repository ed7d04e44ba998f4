use Rattle.ld_explain.proofs.Names.{◌≡◌, AddsThose, HasFact, IsInversion, arith, flat_map, map, states, subst, take}
use Rattle.ld_explain.proofs.FindingLemmas.{AddsThose-next}
use Rattle.ld_explain.proofs.found.Finder.add_inversions.Goals as goal

pub loop-irq-preserved : goal.loop-irq-preserved
loop-irq-preserved c = AddsThose-next _ (λ irq. flat_map (λ a. map (λ b. (irq, (a, b))) c.args.self.keys.now) c.args.self.keys.now) _ _ _ _ _ _ c.loop-irq-test.true c.loop-irq.invariant c.in_ok-add_inversions_of.ensures

pub returns : goal.returns
returns c =
    let all : c.loop-irq.irq-index ≡ 2 = omega (arith, c.loop-irq-test.false, c.loop-irq.auto.irq-index-end) in
    subst (λ n. AddsThose (λ x. IsInversion (HasFact c.args.self.settled.now) x.0 x.1.0 x.1.1)
    (flat_map (λ irq. flat_map (λ a. map (λ b. (irq, (a, b))) c.args.self.keys.now) c.args.self.keys.now) (take n states))
    c.args.inversions.now.items c.loop-irq.inversions.items) all c.loop-irq.invariant
