use Rattle.ld_graph.proofs.Names.{PLACES, arith, count_below-le, has_bit}
use Rattle.ld_graph.proofs.reach.rows_taken.Goals as goal

pub returns : goal.returns
returns c = omega (arith, c.count.ensures, count_below-le (has_bit c.if-not-begins_with_s.rows) PLACES)
