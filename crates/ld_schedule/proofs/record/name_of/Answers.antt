use Rattle.std.proofs.Common.{◌∙◌, sym}
use Rattle.ld_schedule.proofs.FieldLemmas.{utf8-name}
use Rattle.ld_schedule.proofs.record.name_of.Goals as goal

pub from_utf8_unchecked-text-requires : goal.from_utf8_unchecked-text-requires
from_utf8_unchecked-text-requires c = utf8-name c.args.text.now (sym c.is_name.ensures ∙ c.if-not-is_name.false)
