use Rattle.ld_trace.proofs.Names.{◌≢◌, map}
use Rattle.csv.specs.declared.writer.QuoteStyle.TheVariants as style
use Rattle.ld_trace.proofs.WriteLemmas.{row_text-flexible}
use Rattle.ld_trace.proofs.writing.write_record.Goals as goal

pub returns-clause-text : goal.returns-clause-text
returns-clause-text g c =
    let plain : c.args.rows.now.cfg.style ≢ style.NonNumeric = rw c.requires.setup (λ e. cc e) in
    let wrote = c.in-Ok.ensures.bytes c.requires.no_field c.requires.no_byte plain in
    rw (c.requires.setup, row_text-flexible (map (λ f. f.now) c.args.fields.now)) at wrote
