use Rattle.ld_trace.proofs.Names.{All-nil, arith}
use Rattle.ld_trace.proofs.NameLemmas.{AreNumbered-none}
use Rattle.ld_trace.proofs.key_table.KeyTable.with_room.Goals as goal

pub invariant_of-result : goal.invariant_of-result
invariant_of-result c = (rw c.new.ensures.empty (AreNumbered-none _ (omega (arith, c.requires))), rw c.new-2.ensures (All-nil _))
