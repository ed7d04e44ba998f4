use Rattle.std.proofs.Common.{◌∙◌, arith, refl, sym}
use Rattle.std.proofs.lemmas.List.{length-map}
use Rattle.ld_schedule.specs.Inside.Stored.{names_of}
use Rattle.ld_schedule.proofs.TableLemmas.{fits-known, known-stored, place-stored, position-stored, too-many-new, with-stored}
use Rattle.ld_schedule.proofs.name_table.place_among.Goals as goal

pub returns-in-Some-clause-value : goal.returns-in-Some-clause-value
returns-in-Some-clause-value c = position-stored c.args.names.now c.args.name c.in-Some.place c.in-Some.ensures.index

pub returns-in-Some-clause-names : goal.returns-in-Some-clause-names
returns-in-Some-clause-names c = rw (← known-stored c.args.names.now c.args.name, ← c.in-Some.ensures.found) refl

pub returns-in-Some-clause-fits : goal.returns-in-Some-clause-fits
returns-in-Some-clause-fits c = fits-known (names_of c.args.names.now) c.args.name.text.bytes (sym (known-stored c.args.names.now c.args.name) ∙ sym c.in-Some.ensures.found)

pub returns-in-None-clause-over : goal.returns-in-None-clause-over
returns-in-None-clause-over c = λ own.
    (refl, too-many-new (names_of c.args.names.now) c.args.name.text.bytes (sym (known-stored c.args.names.now c.args.name) ∙ sym c.in-None.ensures.found) (rw length-map (omega arith)))

pub returns-in-Ok-clause-value : goal.returns-in-Ok-clause-value
returns-in-Ok-clause-value c = c.in-Ok.ensures.index ∙ place-stored c.args.names.now c.args.name

pub returns-in-Ok-clause-names : goal.returns-in-Ok-clause-names
returns-in-Ok-clause-names c = with-stored c.args.names.now c.insert_full.new.self c.args.name c.in-Ok.ensures.keys
