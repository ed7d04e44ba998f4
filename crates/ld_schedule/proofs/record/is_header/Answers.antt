use Rattle.std.proofs.Common.{◌∙◌, sym}
use Rattle.csv.specs.Records.{fields_of}
use Rattle.ld_schedule.proofs.FieldLemmas.{is_header-two, is_header-others, not-history}
use Rattle.ld_schedule.proofs.record.is_header.Goals as goal

pub returns-then-len-ne2 : goal.returns-then-len-ne2
returns-then-len-ne2 c = sym (is_header-others (fields_of c.args.row.now) (rw c.len.ensures at c.if-len-ne2.true))

pub returns-then-is_word : goal.returns-then-is_word
returns-then-is_word c = rw (is_header-two (fields_of c.args.row.now) c.field.result.now c.field-then-is_word.result.now (sym c.len.ensures ∙ c.if-len-ne2.false) c.field.ensures c.field-then-is_word.ensures, ← c.if-is_word.ensures) c.is_word-then-is_word.ensures

pub returns-else-is_word : goal.returns-else-is_word
returns-else-is_word c = c.if-is_word.false ∙ sym (not-history (fields_of c.args.row.now) c.field.result.now (sym c.len.ensures ∙ c.if-len-ne2.false) c.field.ensures (sym c.is_word.ensures ∙ c.if-is_word.false))
