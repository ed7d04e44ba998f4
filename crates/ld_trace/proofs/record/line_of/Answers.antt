use Rattle.ld_trace.proofs.Names.{◌∙◌, arith, fields_of, sym}
use Rattle.ld_trace.proofs.FieldLemmas.{line_of_record-one, line_of_record-two, line_of_record-three, line_of_record-four, line_of_record-others}
use Rattle.ld_trace.proofs.record.line_of.Goals as goal

pub returns-in-1 : goal.returns-in-1
returns-in-1 c = rw (line_of_record-one c.args.version (fields_of c.args.row.now) c.field.result.now (sym c.len.ensures ∙ c.in-1.is) c.field.ensures) c.leave_line.ensures

pub returns-in-2 : goal.returns-in-2
returns-in-2 c = rw (line_of_record-two c.args.version (fields_of c.args.row.now) c.field-in-2.result.now c.field-in-2-2.result.now (sym c.len.ensures ∙ c.in-2.is) c.field-in-2.ensures c.field-in-2-2.ensures) c.irq_line.ensures

pub returns-in-3 : goal.returns-in-3
returns-in-3 c =
    rw (line_of_record-three c.args.version (fields_of c.args.row.now) c.field-in-3.result.now c.field-in-3-2.result.now c.field-in-3-3.result.now (sym c.len.ensures ∙ c.in-3.is) c.field-in-3.ensures c.field-in-3-2.ensures c.field-in-3-3.ensures)
    c.release_line.ensures

pub returns-in-4 : goal.returns-in-4
returns-in-4 c =
    rw (line_of_record-four c.args.version (fields_of c.args.row.now) c.field-in-4.result.now c.field-in-4-2.result.now c.field-in-4-3.result.now c.field-in-4-4.result.now (sym c.len.ensures ∙ c.in-4.is) c.field-in-4.ensures c.field-in-4-2.ensures c.field-in-4-3.ensures c.field-in-4-4.ensures)
    c.acquire_line.ensures

pub returns-in_default-clause-says : goal.returns-in_default-clause-says
returns-in_default-clause-says c = line_of_record-others c.args.version (fields_of c.args.row.now) (λ e. omega arith) (λ e. omega arith) (λ e. omega arith) (λ e. omega arith)
