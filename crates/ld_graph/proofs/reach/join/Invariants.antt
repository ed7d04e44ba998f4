use Rattle.ld_graph.proofs.Joining.{Joins}
use Rattle.ld_graph.proofs.Names.{◌-◌, PLACES, count_below, has_bit}
use Rattle.ld_graph.proofs.reach.join.Given as goal

abbrev pub invariant-loop-p : goal.invariant-loop-p
invariant-loop-p l = Joins l.initial.rows l.rows l.chosen l.taken l.row

abbrev pub decreases-loop-p : goal.decreases-loop-p
decreases-loop-p l = PLACES - count_below (has_bit l.taken) PLACES
