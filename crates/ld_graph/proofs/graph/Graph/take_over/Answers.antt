use Rattle.ld_graph.proofs.Names.{FactBelow, HasFact, arith, subst, sym}
use Rattle.ld_graph.specs.Inside.TakingOver.{IsTakenOver}
use Rattle.ld_graph.proofs.ByPlace.{TakenOver-known, TakenOver-more}
use Rattle.ld_graph.proofs.graph.Graph.take_over.Goals as goal
use Rattle.ld_graph.proofs.graph.Graph.take_over.Goals.{then-has, else-has}

pub loop-n-preserved : goal.loop-n-preserved
loop-n-preserved c = elim c.if-has.branch [
  | then-has w ↦
      rw (w.self-is)
      (TakenOver-more c.args.facts.now c.args.keys.now c.loop-n.self.facts c.loop-n.n c.loop-n.invariant c.of_number-fact.result
      c.of_number-fact.ensures.below c.of_number-fact.ensures.number
      (subst (HasFact c.args.facts.now) c.at_places.ensures (c.has.ensures.0 w.if-has.true))
      w.add.new.self.facts w.add.ensures.keys w.add.ensures.adds)
  | else-has w ↦
      rw (w.self-is)
      (TakenOver-known c.args.facts.now c.args.keys.now c.loop-n.self.facts c.loop-n.n c.loop-n.invariant c.of_number-fact.result
      c.of_number-fact.ensures.below c.of_number-fact.ensures.number
      (λ there. absurd
      (let on = c.has.ensures.1 (subst (HasFact c.args.facts.now) (sym c.at_places.ensures) there) in
      let off = w.if-has.false in
      cc)))
]

pub add-requires : goal.add-requires
add-requires c = subst (λ keys. FactBelow keys c.of_number-fact.result) (sym c.loop-n.invariant.keys) c.of_number-fact.ensures.below

pub returns : goal.returns
returns c = subst (IsTakenOver c.args.facts.now c.loop-n.self.facts c.args.keys.now) (let most = c.loop-n.auto.n-end in let least = c.loop-n-test.false in omega arith) c.loop-n.invariant
