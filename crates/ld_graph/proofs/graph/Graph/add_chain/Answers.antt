use Rattle.ld_graph.proofs.Names.{◌∙◌, ◌≡◌, Adds-grown, FactBelow, Grown-add, Grown-same, Grown-start, HasFact, Holds-grown, IsClean, IsClean-fewer, ap, arith, inl, none-some, or_parts, refl, subst, sym}
use Rattle.ld_facts.specs.ChainFacts.{fact_slots}
use Rattle.ld_facts.specs.Laws.Chains.{FactBelow-chain, chain_fact-sound}
use Rattle.ld_graph.proofs.graph.Graph.add_chain.Goals as goal
use Rattle.ld_graph.proofs.graph.Graph.add_chain.Goals.{After-loop-n, Joined-fact_in_slot, in-Some, in_default}

pub loop-n-init : goal.loop-n-init
loop-n-init c = record {
  grown = Grown-start c.args.self.now.facts c.args.chain.now;
  known = λ h. refl;
  not_clean = λ h. refl;
}

pub add-fresh-requires : goal.add-fresh-requires
add-fresh-requires c =
    subst (λ keys. FactBelow keys c.in-Some.fact) (sym c.loop-n.invariant.grown.keys)
    (FactBelow-chain c.args.self.now.facts.keys c.args.chain.now c.in-Some.fact c.requires (chain_fact-sound c.args.chain.now c.loop-n.n c.in-Some.fact (sym c.fact_in_slot.ensures ∙ c.in-Some.is)))

-- facts that are not clean stay so on the way
dirty : (c : Joined-fact_in_slot) → ¬ IsClean (HasFact c.args.self.now.facts) → ¬ IsClean (HasFact c.loop-n.self.facts)
dirty c h clean =
    h (IsClean-fewer (HasFact c.args.self.now.facts) (HasFact c.loop-n.self.facts) (λ x has. (c.loop-n.invariant.grown.facts x).1 (inl has)) clean)

pub loop-n-preserved : goal.loop-n-preserved
loop-n-preserved c = elim c.match-fact_in_slot.branch [
  | in-Some w ↦ record {
    grown = rw (w.self-is, w.fresh-is)
        (Grown-add c.args.self.now.facts c.loop-n.self.facts c.args.chain.now c.loop-n.n c.loop-n.fresh c.loop-n.invariant.grown w.add-fresh.new.self.facts w.in-Some.fact
        w.add-fresh.result (sym c.fact_in_slot.ensures ∙ w.in-Some.is) w.add-fresh.ensures.keys w.add-fresh.ensures.adds w.add-fresh.ensures.fresh (λ h. ap (λ g. g.facts) (w.add-fresh.ensures.known h)));
    known = λ h. let (before, here) = or_parts c.loop-n.fresh w.add-fresh.result (sym w.fresh-is ∙ h) in
        w.self-is ∙ w.add-fresh.ensures.known here ∙ c.loop-n.invariant.known before;
    not_clean = λ h. ap (λ g. g.searched) w.self-is ∙ w.add-fresh.ensures.not_clean (dirty (goal.at.loop-n-preserved c).Joined-fact_in_slot h) ∙ c.loop-n.invariant.not_clean h;
  }
  | in_default w ↦ record {
    grown = rw (w.self-is, w.fresh-is)
        (Grown-same c.args.self.now.facts c.loop-n.self.facts c.args.chain.now c.loop-n.n c.loop-n.fresh c.loop-n.invariant.grown
        (λ x at. absurd (none-some x (sym (sym c.fact_in_slot.ensures ∙ w.in_default.is) ∙ at))));
    known = λ h. w.self-is ∙ c.loop-n.invariant.known (sym w.fresh-is ∙ h);
    not_clean = λ h. ap (λ g. g.searched) w.self-is ∙ c.loop-n.invariant.not_clean h;
  }
]

done : (c : After-loop-n) → c.loop-n.n ≡ fact_slots c.args.chain.now
done c = let e = c.fact_slots-n-end.ensures.value in let most = c.loop-n.auto.n-end in let least = c.loop-n-test.false in omega arith

pub returns-clause-adds : goal.returns-clause-adds
returns-clause-adds c =
    Adds-grown c.args.self.now.facts c.loop-n.self.facts c.args.chain.now c.loop-n.n c.loop-n.fresh (done (goal.at.returns-clause-adds c).After-loop-n) c.loop-n.invariant.grown

pub returns-clause-fresh : goal.returns-clause-fresh
returns-clause-fresh c =
    Holds-grown c.args.self.now.facts c.loop-n.self.facts c.args.chain.now c.loop-n.n c.loop-n.fresh (done (goal.at.returns-clause-fresh c).After-loop-n) c.loop-n.invariant.grown
