-- Texts of records that are written one after the other.
use Rattle.ld_trace.proofs.Names.{[], ◌++◌, ◌∷◌, ◌≡◌, Event, List, Name, Record, default_writer, event_text, field_text, flat_map, header_of, record_text, refl, row_text, true, version_for, with_flexible, ℕ}
use Rattle.csv.specs.Writing.{escaped, fields_text, is_blank}
use Rattle.csv.specs.declared.writer.WriterBuilder.{WriterBuilder}
use Rattle.ld_trace.specs.Writing.{trace_text}

-- ---- a writer of records of any length writes each as the default writer does
abbrev pub flexible : WriterBuilder
flexible = with_flexible default_writer true

escaped-flexible : (field : List ℕ) → escaped flexible field ≡ escaped default_writer field
unfolding escaped
escaped-flexible [] = refl
escaped-flexible (b ∷ rest) = rw (escaped-flexible rest) refl

field_text-flexible : (field : List ℕ) → field_text flexible field ≡ field_text default_writer field
field_text-flexible field = rw (escaped-flexible field) refl

fields_text-flexible : (fields : Record) → fields_text flexible fields ≡ fields_text default_writer fields
unfolding fields_text
fields_text-flexible [] = refl
fields_text-flexible (field ∷ rest) = rw (field_text-flexible field, fields_text-flexible rest) refl

is_blank-flexible : (fields : Record) → is_blank flexible fields ≡ is_blank default_writer fields
unfolding is_blank
is_blank-flexible [] = refl
is_blank-flexible (field ∷ []) = rw (field_text-flexible field) refl
is_blank-flexible (field ∷ next ∷ rest) = refl

pub row_text-flexible : (fields : Record) → row_text flexible fields ≡ row_text default_writer fields
row_text-flexible [] = rw (is_blank-flexible []) refl
row_text-flexible (field ∷ rest) = rw (field_text-flexible field, fields_text-flexible rest, is_blank-flexible (field ∷ rest)) refl

-- ---- what is appended
-- the parts of a trace's text
pub trace_text-parts : (names : List Name) (events : List Event) → trace_text names events ≡ record_text (header_of (version_for events)) ++ flat_map (event_text names) events
unfolding trace_text
trace_text-parts names events = refl
