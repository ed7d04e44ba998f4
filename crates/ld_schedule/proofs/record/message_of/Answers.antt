use Rattle.std.proofs.Common.{◌∙◌, sym}
use Rattle.ld_schedule.proofs.FieldLemmas.{message_of-parsed, utf8-decimal}
use Rattle.ld_schedule.proofs.record.message_of.Goals as goal

pub from_utf8_unchecked-text-requires : goal.from_utf8_unchecked-text-requires
from_utf8_unchecked-text-requires c = utf8-decimal c.args.word.now (sym c.is_decimal.ensures ∙ c.if-not-is_decimal.false)

pub returns : goal.returns
returns c = c.ok.ensures.value ∙ message_of-parsed c.args.word.now c.parse.result (sym c.is_decimal.ensures ∙ c.if-not-is_decimal.false) (rw c.from_utf8_unchecked-text.ensures at c.parse.ensures.value.0)
