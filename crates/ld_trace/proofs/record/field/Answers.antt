use Rattle.ld_trace.proofs.Names.{fields_of, sym}
use Rattle.ld_trace.proofs.FieldLemmas.{field-there}
use Rattle.ld_trace.proofs.record.field.Goals as goal

pub unreachable-requires : goal.unreachable-requires
unreachable-requires c = field-there (fields_of c.args.row.now) c.args.place c.requires (sym c.in-None.ensures.value)
