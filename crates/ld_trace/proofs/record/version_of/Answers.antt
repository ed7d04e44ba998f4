use Rattle.ld_trace.proofs.Names.{◌∙◌, fields_of, sym}
use Rattle.ld_trace.proofs.FieldLemmas.{version-two, version-others}
use Rattle.ld_trace.proofs.record.version_of.Goals as goal

pub returns-then-len-ne2 : goal.returns-then-len-ne2
returns-then-len-ne2 c = sym (version-others (fields_of c.args.row.now) (rw c.len.ensures at c.if-len-ne2.true))

pub returns-then-is_word : goal.returns-then-is_word
returns-then-is_word c =
    c.version_named.ensures
    ∙ sym (rw (version-two (fields_of c.args.row.now) c.field-word.result.now c.field-version.result.now (sym c.len.ensures ∙ c.if-len-ne2.false) c.field-word.ensures c.field-version.ensures, ← c.if-is_word.ensures))

pub returns-else-is_word : goal.returns-else-is_word
returns-else-is_word c =
    sym (rw (version-two (fields_of c.args.row.now) c.field-word.result.now c.field-version.result.now (sym c.len.ensures ∙ c.if-len-ne2.false) c.field-word.ensures c.field-version.ensures, ← c.if-is_word.ensures))
