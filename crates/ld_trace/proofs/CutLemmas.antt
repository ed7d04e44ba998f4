-- A text may be cut at a newline if its records have no newline in a field: a quote that is open there shows in a record.
use Rattle.ld_trace.proofs.Names.{[], ◌&&◌, ◌++◌, ◌==◌, ◌∙◌, ◌∷◌, ◌≡◌, Bool, List, Record, State, and_parts, ap, default_config, false, field_after, fields_after, if◌then◌else◌, is_bom, list_all, list_all-append, not, refl, step, sym, true, true≢false, ℕ}
use Rattle.csv.specs.Reading.{strip_bom}
use Rattle.csv.specs.declared.parser.Action.TheVariants as act
use Rattle.csv.specs.declared.parser.State.TheVariants as st
use Rattle.ld_trace.proofs.RowLemmas.{IsKept, Does, ends, goes, skips, IsAt, at-skipped, at-start, at-within, does, first-row, is_between, is_line, is_one_line, rows-byte, rows-within, rows_from, rows_of}

-- ---- a newline within quotes
abbrev HasNewline : Record → Type 0
HasNewline row = is_one_line row ≡ false

none-and : (a b : Bool) → a ≡ false → (a && b) ≡ false
none-and true b e = absurd (true≢false e)
none-and false b e = refl

none-and-last : (a b c : Bool) → (b ≡ false → c ≡ false) → (a && b) ≡ false → (a && c) ≡ false
none-and-last true b c h e = h e
none-and-last false b c h e = refl

newline-field-more : (row : Record) → HasNewline row → HasNewline (row ++ [] ∷ [])
newline-field-more row has = list_all-append is_line row ([] ∷ []) ∙ none-and (is_one_line row) true has

newline-byte-more : (fields : Record) (field : List ℕ) (c : ℕ) → HasNewline (fields ++ field ∷ []) → HasNewline (fields ++ (field ++ c ∷ []) ∷ [])
newline-byte-more fields field c has =
    list_all-append is_line fields ((field ++ c ∷ []) ∷ [])
    ∙ none-and-last (is_one_line fields) (is_line field && true) (is_line (field ++ c ∷ []) && true)
    (λ e. rw (list_all-append (λ byte. not (byte == 10)) field (c ∷ [])) (longer (is_line field) (not (c == 10) && true) e))
    (sym (list_all-append is_line fields (field ∷ [])) ∙ has)
  where
    longer : (a b : Bool) → (a && true) ≡ false → ((a && b) && true) ≡ false
    longer true b e = absurd (true≢false e)
    longer false b e = refl

newline-put : (fields : Record) (field : List ℕ) → HasNewline (fields ++ (field ++ 10 ∷ []) ∷ [])
newline-put fields field =
    list_all-append is_line fields ((field ++ 10 ∷ []) ∷ [])
    ∙ rw (list_all-append (λ byte. not (byte == 10)) field (10 ∷ [])) (none (is_one_line fields) (is_line field))
  where
    none : (a b : Bool) → (a && ((b && false) && true)) ≡ false
    none true true = refl
    none true false = refl
    none false b = refl

newline-kept : IsKept HasNewline
newline-kept = record { field_more = newline-field-more; byte_more = newline-byte-more; not_blank = λ e. true≢false e }

-- so no quote is open if all records are of one line
quotes-shut : (fields : Record) (field xs : List ℕ) → list_all is_one_line (rows_from st.InQuoted fields (field ++ 10 ∷ []) xs) ≡ true → ⊥
quotes-shut fields field xs lines =
    let first = first-row HasNewline newline-kept st.InQuoted fields (field ++ 10 ∷ []) xs
    (at-within st.InQuoted fields (field ++ 10 ∷ []) refl refl) (newline-put fields field) in
    let parts = and_parts (is_one_line first.0) (list_all is_one_line first.1) (rw first.2 at lines) in
    true≢false (sym parts.0 ∙ first.3)

-- the records behind one are of one line too
pub lines-left : (a : List Record) (r : Record) (b : List Record) → list_all is_one_line (a ++ r ∷ b) ≡ true → list_all is_one_line b ≡ true
lines-left a r b lines =
    let parts = and_parts (list_all is_one_line a) (is_one_line r && list_all is_one_line b) (sym (list_all-append is_one_line a (r ∷ b)) ∙ lines) in
    (and_parts (is_one_line r) (list_all is_one_line b) parts.1).1

-- ---- the cut
-- if no record has a newline in a field, whatever comes after the newline, then the records are those of the text before it, and
-- then those of the text after it
abbrev Cut : State → Record → List ℕ → List ℕ → List ℕ → List ℕ → Type 0
Cut s fields field front any rest = list_all is_one_line (rows_from s fields field (front ++ 10 ∷ any)) ≡ true
    → rows_from s fields field (front ++ 10 ∷ rest) ≡ rows_from s fields field front ++ rows_of rest

cut-end : (s : State) (fields : Record) (field any rest : List ℕ) → IsAt s fields field → Cut s fields field [] any rest
unfolding rows_from
cut-end st.StartRecord fields field any rest at lines = let blank = at.blank refl in rw (blank.0, blank.1) refl
cut-end st.AfterCr fields field any rest at lines = let blank = at.blank refl in rw (blank.0, blank.1) refl
cut-end st.StartField fields field any rest at lines = refl
cut-end st.InField fields field any rest at lines = refl
cut-end st.AfterQuote fields field any rest at lines = refl
cut-end st.InQuoted fields field any rest at lines = absurd (quotes-shut fields field any lines)
cut-end st.InEscape fields field any rest at lines = absurd (true≢false (sym at.used))
cut-end st.InComment fields field any rest at lines = absurd (true≢false (sym at.used))

cut : (s : State) (fields : Record) (field front any rest : List ℕ) → IsAt s fields field → Cut s fields field front any rest
cut s fields field [] any rest at lines = cut-end s fields field any rest at lines
cut s fields field (c ∷ front) any rest at lines = by (does s c at.used) (λ t f p. cut t f p front any rest) lines
  where
    by : Does (is_between s) (step default_config s c)
        → ((t : State) (f : Record) (p : List ℕ) → IsAt t f p → Cut t f p front any rest)
        → Cut s fields field (c ∷ front) any rest
    by (ends t e used) more lines =
        let with_any = rows-byte s t act.EndRecord fields field c (front ++ 10 ∷ any) e in
        let with_rest = rows-byte s t act.EndRecord fields field c (front ++ 10 ∷ rest) e in
        let own = rows-byte s t act.EndRecord fields field c front e in
        let after = and_parts (is_one_line (fields ++ field ∷ [])) (list_all is_one_line (rows_from t [] [] (front ++ 10 ∷ any))) (rw with_any at lines) in
        rw (with_rest, own) (ap (λ rows. (fields ++ field ∷ []) ∷ rows) (more t [] [] (at-start t used) after.1))
    by (goes t a e going used inside) more lines =
        let with_any = rows-within s t a fields field c (front ++ 10 ∷ any) e going in
        let with_rest = rows-within s t a fields field c (front ++ 10 ∷ rest) e going in
        let own = rows-within s t a fields field c front e going in
        rw (with_rest, own) (more t (fields_after a fields field) (field_after a c field) (at-within t _ _ used inside) (rw with_any at lines))
    by (skips e mid) more lines =
        let with_any = rows-within s st.StartRecord act.Skip fields field c (front ++ 10 ∷ any) e refl in
        let with_rest = rows-within s st.StartRecord act.Skip fields field c (front ++ 10 ∷ rest) e refl in
        let own = rows-within s st.StartRecord act.Skip fields field c front e refl in
        rw (with_rest, own) (more st.StartRecord fields field (at-skipped s fields field mid at) (rw with_any at lines))

pub cut-rows : (front any rest : List ℕ) → list_all is_one_line (rows_of (front ++ 10 ∷ any)) ≡ true
    → rows_of (front ++ 10 ∷ rest) ≡ rows_of front ++ rows_of rest
cut-rows front any rest lines = cut st.StartRecord [] [] front any rest (at-start st.StartRecord refl) lines

-- ---- the mark of a text
-- a mark doesn't reach over a newline
no-mark : (a c : ℕ) → is_bom a 10 c ≡ false
no-mark a c = by (a == 0xEF)
  where
    by : (b : Bool) → (b && false && (c == 0xBF)) ≡ false
    by true = refl
    by false = refl

no-mark-late : (a b : ℕ) → is_bom a b 10 ≡ false
no-mark-late a b = by (a == 0xEF) (b == 0xBB)
  where
    by : (c d : Bool) → (c && d && false) ≡ false
    by true true = refl
    by true false = refl
    by false d = refl

-- so a text's mark is the same whatever comes after a newline
pub mark-first : (front rest : List ℕ) → strip_bom (front ++ 10 ∷ rest) ≡ strip_bom front ++ 10 ∷ rest
unfolding strip_bom
mark-first [] [] = refl
mark-first [] (b ∷ []) = refl
mark-first [] (b ∷ c ∷ rest) = refl
mark-first (a ∷ []) [] = refl
mark-first (a ∷ []) (c ∷ rest) = rw (no-mark a c) refl
mark-first (a ∷ b ∷ []) rest = rw (no-mark-late a b) refl
mark-first (a ∷ b ∷ c ∷ front) rest = by (is_bom a b c)
  where
    by : (m : Bool) → (if m then front ++ 10 ∷ rest else a ∷ b ∷ c ∷ front ++ 10 ∷ rest) ≡ (if m then front else a ∷ b ∷ c ∷ front) ++ 10 ∷ rest
    by true = refl
    by false = refl
