use Rattle.ld_trace.proofs.Names.{All-nil, name_of, names_of, sym, take-map}
use Rattle.ld_trace.proofs.StoredLemmas.{AreNumbered-first}
use Rattle.ld_trace.proofs.key_table.KeyTable.forget_from.Goals as goal

pub invariant_of-self : goal.invariant_of-self
invariant_of-self c = (
  rw (c.truncate.ensures.keys, ← take-map name_of c.args.place c.self.inside.names.keys)
      (AreNumbered-first c.self.inside.room c.args.place (names_of c.self.inside.names) c.self.invariant.0),
  rw c.clear.ensures (All-nil _),
)

pub returns-then-place-len-clause-names : goal.returns-then-place-len-clause-names
returns-then-place-len-clause-names c = rw (c.truncate.ensures.keys, ← c.self.view_is) (sym (take-map name_of c.args.place c.self.inside.names.keys))
