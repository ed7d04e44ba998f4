use Rattle.ld_trace.proofs.StoredLemmas.{named-stored}
use Rattle.ld_trace.proofs.key_table.KeyTable.name_at.Goals as goal

pub returns-clause-named : goal.returns-clause-named
returns-clause-named c = rw c.as_str.ensures.value (named-stored c.self.inside.names c.args.place c.in_ok-name.name.now c.self.invariant.0.named c.in_ok-name.ensures.key)
