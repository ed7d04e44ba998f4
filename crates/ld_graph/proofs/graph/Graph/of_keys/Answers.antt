use Rattle.ld_graph.proofs.Names.{◌*◌, length}
use Rattle.std.proofs.Math.Nat.{zero-mul}
use Rattle.ld_graph.proofs.ByPlace.{AreSame-all, TakenOver-row, TakenOver-start}
use Rattle.ld_graph.proofs.graph.Graph.of_keys.Goals as goal
use Rattle.ld_graph.proofs.graph.Graph.of_keys.Goals.{then-leads_on, else-leads_on}

pub loop-place-init : goal.loop-place-init
loop-place-init c = rw (zero-mul (length c.args.keys.now * 4)) (TakenOver-start c.args.facts.now c.args.keys.now c.in_ok-graph.graph.facts c.in_ok-graph.ensures.keys c.in_ok-graph.ensures.none)

pub loop-place-preserved : goal.loop-place-preserved
loop-place-preserved c = elim c.if-leads_on.branch [
  | then-leads_on w ↦ rw w.graph-is w.take_over_row.ensures
  | else-leads_on w ↦
      rw w.graph-is
      (TakenOver-row c.args.facts.now c.args.keys.now c.loop-place.graph.facts c.loop-place.place c.loop-place-test.true
      (λ to kind has. let on = c.leads_on.ensures.1 (to, kind, has) in let off = w.if-leads_on.false in cc) c.loop-place.invariant)
]

pub returns-clause-facts : goal.returns-clause-facts
returns-clause-facts c =
    AreSame-all c.args.facts.now c.args.keys.now c.take_over.new.self.facts c.fact_total.result c.fact_total.ensures c.take_over.ensures
