use Rattle.ld_trace.proofs.Names.{◌∙◌, sym}
use Rattle.ld_trace.proofs.FieldLemmas.{utf8-class_name}
use Rattle.ld_trace.proofs.record.class_of.Goals as goal

pub from_utf8_unchecked-requires : goal.from_utf8_unchecked-requires
from_utf8_unchecked-requires c = utf8-class_name c.args.class.now (sym c.is_class_name.ensures ∙ c.if-is_class_name.true)
