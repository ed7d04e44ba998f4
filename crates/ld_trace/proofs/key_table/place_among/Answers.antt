use Rattle.ld_trace.proofs.Names.{◌∙◌, arith, length-map, name_of, names_of, refl, sym, true≢false}
use Rattle.ld_trace.proofs.NameLemmas.{fits-known, too-many-new}
use Rattle.ld_trace.proofs.StoredLemmas.{known-stored, place-stored, position-stored, distinct-stored, with_name-stored}
use Rattle.ld_trace.proofs.key_table.place_among.Goals as goal

-- a full table, and the name is known
pub returns-in-Some-clause-value : goal.returns-in-Some-clause-value
returns-in-Some-clause-value c = position-stored c.args.names.now c.args.name c.in-Some.place c.in-Some.ensures.index

pub returns-in-Some-clause-names : goal.returns-in-Some-clause-names
returns-in-Some-clause-names c = rw (← known-stored c.args.names.now c.args.name, ← c.in-Some.ensures.found)

pub returns-in-Some-clause-full : goal.returns-in-Some-clause-full
returns-in-Some-clause-full c = ((λ e. cc), (λ e. absurd (true≢false (sym e ∙ fits-known c.args.room (names_of c.args.names.now) (name_of c.args.name) (sym (known-stored c.args.names.now c.args.name) ∙ sym c.in-Some.ensures.found)))))

pub returns-in-Some-clause-unique : goal.returns-in-Some-clause-unique
returns-in-Some-clause-unique c = distinct-stored c.args.names.now c.len.ensures.unique

-- a full table, and it is new
pub returns-in-None-clause-full : goal.returns-in-None-clause-full
returns-in-None-clause-full c =
    let new = sym (known-stored c.args.names.now c.args.name) ∙ sym c.in-None.ensures.found in
    ((λ e. too-many-new c.args.room (names_of c.args.names.now) (name_of c.args.name) new (rw length-map (omega arith))), (λ e. refl))

pub returns-in-None-clause-known : goal.returns-in-None-clause-known
returns-in-None-clause-known c = λ known. absurd (true≢false (sym known ∙ sym (known-stored c.args.names.now c.args.name) ∙ sym c.in-None.ensures.found))

pub returns-in-None-clause-unique : goal.returns-in-None-clause-unique
returns-in-None-clause-unique c = distinct-stored c.args.names.now c.len.ensures.unique

-- room for one more
pub returns-in-Ok-clause-value : goal.returns-in-Ok-clause-value
returns-in-Ok-clause-value c = c.in-Ok.ensures.index ∙ place-stored c.args.names.now c.args.name

pub returns-in-Ok-clause-names : goal.returns-in-Ok-clause-names
returns-in-Ok-clause-names c = with_name-stored c.args.names.now c.insert_full.new.self c.args.name c.in-Ok.ensures.keys

pub returns-in-Ok-clause-unique : goal.returns-in-Ok-clause-unique
returns-in-Ok-clause-unique c = distinct-stored c.insert_full.new.self c.insert_full.ensures.unique

pub returns-in-Err-clause-known : goal.returns-in-Err-clause-known
returns-in-Err-clause-known c = λ known. absurd (true≢false (sym known ∙ sym (known-stored c.args.names.now c.args.name) ∙ c.in-Err.ensures.absent))

pub returns-in-Err-clause-unique : goal.returns-in-Err-clause-unique
returns-in-Err-clause-unique c = distinct-stored c.insert_full.new.self c.insert_full.ensures.unique
