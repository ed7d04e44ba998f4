use Rattle.std.proofs.Common.{sym}
use Rattle.csv.specs.Records.{fields_of}
use Rattle.ld_schedule.proofs.FieldLemmas.{field-there}
use Rattle.ld_schedule.proofs.record.field.Goals as goal

pub unreachable-requires : goal.unreachable-requires
unreachable-requires c = field-there (fields_of c.args.row.now) c.args.place c.requires (sym c.in-None.ensures.value)
