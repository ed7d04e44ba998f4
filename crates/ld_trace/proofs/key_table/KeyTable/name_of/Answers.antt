use Rattle.ld_trace.proofs.StoredLemmas.{sub-stored}
use Rattle.ld_trace.proofs.key_table.KeyTable.name_of.Goals as goal

pub returns-clause-digit : goal.returns-clause-digit
returns-clause-digit c = sub-stored c.self.inside.names c.get.result c.in_ok-name.name.now c.self.invariant.0.named c.in_ok-name.ensures.key
