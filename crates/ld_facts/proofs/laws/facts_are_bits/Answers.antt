use Rattle.ld_facts.proofs.Names.{fact_number-lt, fact_number-same, fact_of}
use Rattle.ld_facts.proofs.laws.facts_are_bits.Goals as goal

pub returns-clause-below : goal.returns-clause-below
returns-clause-below c = fact_number-lt

pub returns-clause-each : goal.returns-clause-each
returns-clause-each c = λ keys n l. let (x, (below, is)) = fact_of keys n l in (x, below, is)

pub returns-clause-different : goal.returns-clause-different
returns-clause-different c = fact_number-same
