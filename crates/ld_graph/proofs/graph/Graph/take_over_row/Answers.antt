use Rattle.ld_graph.proofs.Names.{◌*◌, ◌+◌, ◌≡◌, arith, length, subst, sym}
use Rattle.ld_graph.specs.Inside.TakingOver.{IsTakenOver}
use Rattle.ld_graph.proofs.ByPlace.{TakenOver-pair, pair-at, row-after}
use Rattle.ld_graph.proofs.graph.Graph.take_over_row.Goals as goal
use Rattle.ld_graph.proofs.graph.Graph.take_over_row.Goals.{then-leads, else-leads}

pub loop-other-init : goal.loop-other-init
loop-other-init c =
    subst (IsTakenOver c.args.facts.now c.args.self.now.facts c.args.keys.now)
    (let same : c.args.place * (length c.args.keys.now * 4) ≡ c.args.place * (length c.args.keys.now * 4) + 0 * 4 = omega arith in same) c.requires.before

pub take_over-requires-clause-before : goal.take_over-requires-clause-before
take_over-requires-clause-before c =
    subst (IsTakenOver c.args.facts.now c.loop-other.self.facts c.args.keys.now)
    (sym (pair-at c.args.facts.now c.args.keys.now c.args.place c.loop-other.other)) c.loop-other.invariant

pub loop-other-preserved : goal.loop-other-preserved
loop-other-preserved c = elim c.if-leads.branch [
  | then-leads w ↦
      rw w.self-is
      (subst (IsTakenOver c.args.facts.now w.take_over.new.self.facts c.args.keys.now)
      (let at = pair-at c.args.facts.now c.args.keys.now c.args.place c.loop-other.other in
      let same : (c.args.place * length c.args.keys.now + c.loop-other.other) * 4 + 4
      ≡ c.args.place * (length c.args.keys.now * 4) + (c.loop-other.other + 1) * 4 = omega (arith, at) in same)
      w.take_over.ensures)
  | else-leads w ↦
      rw w.self-is
      (TakenOver-pair c.args.facts.now c.args.keys.now c.loop-other.self.facts c.args.place c.loop-other.other c.requires.within c.loop-other-test.true
      (λ there. let on = c.leads.ensures.1 there in let off = w.if-leads.false in cc) c.loop-other.invariant)
]

pub returns : goal.returns
returns c =
    subst (IsTakenOver c.args.facts.now c.loop-other.self.facts c.args.keys.now)
    (let after = row-after c.args.facts.now c.args.keys.now c.args.place in
    let most = c.loop-other.auto.other-end in
    let same : c.args.place * (length c.args.keys.now * 4) + c.loop-other.other * 4 ≡ (c.args.place + 1) * (length c.args.keys.now * 4) =
    omega (arith, c.loop-other-test.false, most, after) in same)
    c.loop-other.invariant
