use Rattle.ld_facts.proofs.Names.{◌∙◌, ◌≡◌, Adds-grown, FactBelow, FactBelow-chain, Grown-add, Grown-same, Grown-start, Holds-grown, arith, chain_fact-sound, fact_slots, none-some, subst, sym}
use Rattle.ld_facts.proofs.facts.Facts.add_chain.Goals as goal
use Rattle.ld_facts.proofs.facts.Facts.add_chain.Goals.{After-loop-n, in-Some, in_default}

pub loop-n-init : goal.loop-n-init
loop-n-init c = Grown-start c.args.self.now c.args.chain.now

pub add-fresh-requires : goal.add-fresh-requires
add-fresh-requires c =
    subst (λ keys. FactBelow keys c.in-Some.fact) (sym c.loop-n.invariant.keys)
    (FactBelow-chain c.args.self.now.keys c.args.chain.now c.in-Some.fact c.requires (chain_fact-sound c.args.chain.now c.loop-n.n c.in-Some.fact (sym c.fact_in_slot.ensures ∙ c.in-Some.is)))

pub loop-n-preserved : goal.loop-n-preserved
loop-n-preserved c = elim c.match-fact_in_slot.branch [
  | in-Some w ↦
      rw (w.self-is, w.fresh-is)
      (Grown-add c.args.self.now c.loop-n.self c.args.chain.now c.loop-n.n c.loop-n.fresh c.loop-n.invariant w.add-fresh.new.self w.in-Some.fact w.add-fresh.result
      (sym c.fact_in_slot.ensures ∙ w.in-Some.is) w.add-fresh.ensures.keys w.add-fresh.ensures.adds w.add-fresh.ensures.fresh w.add-fresh.ensures.known)
  | in_default w ↦
      rw (w.self-is, w.fresh-is)
      (Grown-same c.args.self.now c.loop-n.self c.args.chain.now c.loop-n.n c.loop-n.fresh c.loop-n.invariant
      (λ x at. absurd (none-some x (sym (sym c.fact_in_slot.ensures ∙ w.in_default.is) ∙ at))))
]

done : (c : After-loop-n) → c.loop-n.n ≡ fact_slots c.args.chain.now
done c = let e = c.fact_slots-n-end.ensures.value in let most = c.loop-n.auto.n-end in let least = c.loop-n-test.false in omega arith

pub returns-clause-adds : goal.returns-clause-adds
returns-clause-adds c =
    Adds-grown c.args.self.now c.loop-n.self c.args.chain.now c.loop-n.n c.loop-n.fresh (done (goal.at.returns-clause-adds c).After-loop-n) c.loop-n.invariant

pub returns-clause-fresh : goal.returns-clause-fresh
returns-clause-fresh c =
    Holds-grown c.args.self.now c.loop-n.self c.args.chain.now c.loop-n.n c.loop-n.fresh (done (goal.at.returns-clause-fresh c).After-loop-n) c.loop-n.invariant
