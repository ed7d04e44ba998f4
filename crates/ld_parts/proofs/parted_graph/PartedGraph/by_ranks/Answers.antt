use Rattle.ld_parts.proofs.Names.{AreHoused, arith, slice_index, subst, sym}
use Rattle.ld_parts.proofs.Parting.{AreHoused-parts, not_crowded}
use Rattle.ld_parts.proofs.parted_graph.PartedGraph.by_ranks.Goals as goal

pub homes_by_ranks-requires : goal.homes_by_ranks-requires
homes_by_ranks-requires c =
    subst (λ n. AreHoused n (slice_index c.args.ranks.now) c.deref.result.now) (sym c.keys.ensures.value)
    (subst (AreHoused c.args.facts.keys (slice_index c.args.ranks.now)) (sym c.deref.ensures.value)
    (AreHoused-parts c.args.facts (slice_index c.args.ranks.now) c.in_ok-parts.parts.items c.in_ok-parts.ensures.ok
    (let e = c.keys.ensures.value in let l = c.keys.ensures.few in omega arith)))

pub returns-clause-few : goal.returns-clause-few
returns-clause-few c =
    not_crowded c.args.facts (slice_index c.args.ranks.now) c.in_ok-parts.parts.items c.in_ok-parts.ensures.ok
