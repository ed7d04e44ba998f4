use Rattle.std.proofs.Common.{◌∙◌, arith, sym}
use Rattle.csv.specs.Records.{fields_of}
use Rattle.ld_schedule.proofs.FieldLemmas.{line_of_record-two, line_of_record-three, line_of_record-four, line_of_record-others}
use Rattle.ld_schedule.proofs.record.line_of.Goals as goal

pub returns-in-2 : goal.returns-in-2
returns-in-2 c = rw (line_of_record-two (fields_of c.args.row.now) c.field.result.now c.field-in-2.result.now (sym c.len.ensures ∙ c.in-2.is) c.field.ensures c.field-in-2.ensures) c.declaration.ensures

pub returns-in-3 : goal.returns-in-3
returns-in-3 c = rw (line_of_record-three (fields_of c.args.row.now) c.field-in-3.result.now c.field-in-3-2.result.now c.field-in-3-3.result.now (sym c.len.ensures ∙ c.in-3.is) c.field-in-3.ensures c.field-in-3-2.ensures c.field-in-3-3.ensures) c.short_line.ensures

pub returns-in-4 : goal.returns-in-4
returns-in-4 c = rw (line_of_record-four (fields_of c.args.row.now) c.field-in-4.result.now c.field-in-4-2.result.now c.field-in-4-3.result.now c.field-in-4-4.result.now (sym c.len.ensures ∙ c.in-4.is) c.field-in-4.ensures c.field-in-4-2.ensures c.field-in-4-3.ensures c.field-in-4-4.ensures) c.take_line.ensures

pub returns-in_default : goal.returns-in_default
returns-in_default c = line_of_record-others (fields_of c.args.row.now) (λ e. omega arith) (λ e. omega arith) (λ e. omega arith)
