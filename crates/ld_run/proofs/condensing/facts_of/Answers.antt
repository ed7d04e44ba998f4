use Rattle.ld_run.proofs.Names.{None, in_facts}
use Rattle.ld_run.proofs.condensing.facts_of.Goals as goal

pub add_trace-requires-clause-known : goal.add_trace-requires-clause-known
add_trace-requires-clause-known c = c.none.ensures (in_facts None c.in_ok-facts.facts)
