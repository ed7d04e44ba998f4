-- The records of a text, byte after byte, as the machine of the crate `csv` gives them with its defaults.
use Rattle.ld_trace.proofs.Names.{[], ◌++◌, ◌+◌, ◌<◌, ◌==◌, ◌∙◌, ◌∷◌, ◌≡◌, Bool, List, None, Option, Record, Some, State, after_end, ap, arith, default_config, ends_at_end, ends_with, false, field_after, fields_after, if◌then◌else◌, in_field, inl, inr, is_end, length, records, records_next, refl, start_field, start_record, step, subst, suc, sym, true, true≢false, zero, ℕ, list_all, not}
use Rattle.csv.specs.Machine.{Read, next_record}
use Rattle.csv.specs.Reading.{records_from}
use Rattle.csv.specs.declared.parser.Action.{Action}
use Rattle.csv.specs.declared.parser.Action.TheVariants as act
use Rattle.csv.specs.declared.parser.State.TheVariants as st
use Rattle.csv.specs.declared.parser.Terminator.TheVariants as term
use Rattle.ld_trace.proofs.CsvLemmas.{Shortens, next-shortens, records-none}

-- ---- the records, by recursion over the bytes
-- the records of a text from a state, with the fields and the bytes of the field at hand
unfoldable pub rows_from : State → Record → List ℕ → List ℕ → List Record
rows_from s fields field [] = if ends_at_end s then (fields ++ field ∷ []) ∷ [] else []
rows_from s fields field (c ∷ rest) =
    if is_end (step default_config s c).1 then fields_after (step default_config s c).1 fields field ∷ rows_from (step default_config s c).0 [] [] rest
    else rows_from (step default_config s c).0 (fields_after (step default_config s c).1 fields field) (field_after (step default_config s c).1 c field) rest

-- those from its start
abbrev pub rows_of : List ℕ → List Record
rows_of text = rows_from st.StartRecord [] [] text

-- they are the next record, and then those of the rest
rows-next : (s : State) (fields : Record) (field xs : List ℕ)
    → rows_from s fields field xs ≡ records_next (λ t rest. rows_from t [] [] rest) (next_record default_config s fields field xs)
unfolding rows_from next_record
rows-next s fields field [] = by (ends_at_end s)
  where
    by : (b : Bool)
        → (if b then (fields ++ field ∷ []) ∷ [] else []) ≡ records_next (λ t rest. rows_from t [] [] rest) (if b then Some (fields ++ (field ∷ []), st.StartRecord, []) else None)
    by true = refl
    by false = refl
rows-next s fields field (c ∷ rest) =
    by (is_end (step default_config s c).1) _ _ _ _ (rows-next (step default_config s c).0 (fields_after (step default_config s c).1 fields field) (field_after (step default_config s c).1 c field) rest)
  where
    by : (b : Bool) (row : Record) (t : State) (more : List Record) (next : Option Read) → more ≡ records_next (λ t rest. rows_from t [] [] rest) next
        → (if b then row ∷ rows_from t [] [] rest else more) ≡ records_next (λ t rest. rows_from t [] [] rest) (if b then Some (row, t, rest) else next)
    by true row t more next e = refl
    by false row t more next e = e

ended : next_record default_config st.StartRecord [] [] [] ≡ None
unfolding next_record
ended = refl

none-left : rows_of [] ≡ []
unfolding rows_from
none-left = refl

-- so they are the records of the text
rest-rows : (n : ℕ) → ((s : State) (xs : List ℕ) → length xs < n → records_from default_config n s xs ≡ rows_from s [] [] xs)
    → (xs : List ℕ) → length xs < suc n → (p : Read) → Shortens xs p → records_from default_config n p.1 p.2 ≡ rows_from p.1 [] [] p.2
rest-rows n enough xs lt p (inl shorter) = enough p.1 p.2 (omega arith)
rest-rows n enough xs lt p (inr end) = rw (end.0, end.1) (records-none default_config n st.StartRecord [] ended ∙ sym none-left)

rows-enough : (n : ℕ) (s : State) (xs : List ℕ) → length xs < n → records_from default_config n s xs ≡ rows_from s [] [] xs
unfolding records_from
rows-enough zero s xs lt = absurd (omega arith)
rows-enough (suc n) s xs lt = by (next_record default_config s [] [] xs) refl (rest-rows n (rows-enough n) xs lt) ∙ sym (rows-next s [] [] xs)
  where
    by : (next : Option Read) → next_record default_config s [] [] xs ≡ next → ((p : Read) → Shortens xs p → records_from default_config n p.1 p.2 ≡ rows_from p.1 [] [] p.2)
        → records_next (records_from default_config n) next ≡ records_next (λ t rest. rows_from t [] [] rest) next
    by None e rest = refl
    by (Some p) e rest = ap (λ more. p.0 ∷ more) (rest p (next-shortens default_config s [] [] xs p e))

pub records-rows : (xs : List ℕ) → records default_config xs ≡ rows_of xs
records-rows xs = rows-enough (length xs + 1) st.StartRecord xs (omega arith)

-- ---- what a byte does
-- whether bytes have no newline
abbrev pub is_line : List ℕ → Bool
is_line bytes = list_all (λ byte. not (byte == 10)) bytes

-- whether no field of a record has one
abbrev pub is_one_line : Record → Bool
is_one_line row = list_all is_line row

-- whether the machine is between two records
abbrev pub is_between : State → Bool
is_between st.StartRecord = true
is_between st.AfterCr = true
is_between st.StartField = false
is_between st.InField = false
is_between st.InQuoted = false
is_between st.AfterQuote = false
is_between st.InEscape = false
is_between st.InComment = false

-- whether the defaults, which have no escapes and no comments, reach a state
abbrev pub is_used : State → Bool
is_used st.StartRecord = true
is_used st.AfterCr = true
is_used st.StartField = true
is_used st.InField = true
is_used st.InQuoted = true
is_used st.AfterQuote = true
is_used st.InEscape = false
is_used st.InComment = false

-- what a byte does, from a state that is between two records or isn't: it ends a record, goes on with one, or is skipped
pub data Does (between : Bool) (q : State × Action) : Type 0 where
  ends : (t : State) → q ≡ (t, act.EndRecord) → is_used t ≡ true → Does between q
  goes : (t : State) (a : Action) → q ≡ (t, a) → is_end a ≡ false → is_used t ≡ true → is_between t ≡ false → Does between q
  skips : q ≡ (st.StartRecord, act.Skip) → between ≡ true → Does between q

either : (b between : Bool) (q r : State × Action) → Does between q → Does between r → Does between (if b then q else r)
either true between q r h k = h
either false between q r h k = k

end-used : (b : Bool) → is_used (if b then st.AfterCr else st.StartRecord) ≡ true
end-used true = refl
end-used false = refl

does-in_field : (between : Bool) (c : ℕ) → Does between (in_field default_config c)
does-in_field between c =
    either (c == 44) between _ _ (goes st.StartField act.EndField refl refl refl refl)
    (either (ends_with term.CRLF c) between _ _ (ends (after_end term.CRLF c) refl (end-used (c == 13))) (goes st.InField act.Copy refl refl refl refl))

does-start_field : (between : Bool) (c : ℕ) → Does between (start_field default_config c)
does-start_field between c = either (c == 34) between _ _ (goes st.InQuoted act.Skip refl refl refl refl) (does-in_field between c)

does-start_record : (c : ℕ) → Does true (start_record default_config c)
does-start_record c = either (ends_with term.CRLF c) true _ _ (skips refl refl) (does-start_field true c)

pub does : (s : State) (c : ℕ) → is_used s ≡ true → Does (is_between s) (step default_config s c)
does st.StartRecord c u = does-start_record c
does st.AfterCr c u = either (c == 10) true _ _ (skips refl refl) (does-start_record c)
does st.StartField c u = does-start_field false c
does st.InField c u = does-in_field false c
does st.InQuoted c u = either (c == 34) false _ _ (goes st.AfterQuote act.Skip refl refl refl refl) (goes st.InQuoted act.Copy refl refl refl refl)
does st.AfterQuote c u = either (c == 34) false _ _ (goes st.InQuoted act.Copy refl refl refl refl) (does-in_field false c)
does st.InEscape c u = absurd (true≢false (sym u))
does st.InComment c u = absurd (true≢false (sym u))

-- a state that the defaults reach, with these fields and this field at hand
pub record IsAt (s : State) (fields : Record) (field : List ℕ) : Type 0 where
  pub used : is_used s ≡ true
  pub blank : is_between s ≡ true → (fields ≡ []) × (field ≡ [])

pub at-start : (t : State) → is_used t ≡ true → IsAt t [] []
at-start t used = record { used = used; blank = λ between. (refl, refl) }

pub at-within : (t : State) (fields : Record) (field : List ℕ) → is_used t ≡ true → is_between t ≡ false → IsAt t fields field
at-within t fields field used within = record { used = used; blank = λ between. absurd (true≢false (sym between ∙ within)) }

pub at-skipped : (s : State) (fields : Record) (field : List ℕ) → is_between s ≡ true → IsAt s fields field → IsAt st.StartRecord fields field
at-skipped s fields field between at = record { used = refl; blank = λ same. at.blank between }

-- the records after a byte
abbrev pub after_byte : State → Action → Record → List ℕ → ℕ → List ℕ → List Record
after_byte t a fields field c rest =
    if is_end a then fields_after a fields field ∷ rows_from t [] [] rest else rows_from t (fields_after a fields field) (field_after a c field) rest

pub rows-byte : (s t : State) (a : Action) (fields : Record) (field : List ℕ) (c : ℕ) (rest : List ℕ) → step default_config s c ≡ (t, a)
    → rows_from s fields field (c ∷ rest) ≡ after_byte t a fields field c rest
unfolding rows_from
rows-byte s t a fields field c rest e = ap (λ (q : State × Action). after_byte q.0 q.1 fields field c rest) e

pub rows-within : (s t : State) (a : Action) (fields : Record) (field : List ℕ) (c : ℕ) (rest : List ℕ) → step default_config s c ≡ (t, a) → is_end a ≡ false
    → rows_from s fields field (c ∷ rest) ≡ rows_from t (fields_after a fields field) (field_after a c field) rest
rows-within s t a fields field c rest e within = rows-byte s t a fields field c rest e ∙ rw within refl

-- ---- the first record has what the fields so far have
within-ends : (s : State) → is_used s ≡ true → is_between s ≡ false → ends_at_end s ≡ true
within-ends st.StartRecord u b = absurd (true≢false b)
within-ends st.AfterCr u b = absurd (true≢false b)
within-ends st.StartField u b = refl
within-ends st.InField u b = refl
within-ends st.InQuoted u b = refl
within-ends st.AfterQuote u b = refl
within-ends st.InEscape u b = refl
within-ends st.InComment u b = refl

-- what a record has by its fields so far, more bytes and more fields don't take from it, and a record of no byte hasn't it
pub record IsKept (Has : Record → Type 0) : Type 0 where
  pub field_more : (row : Record) → Has row → Has (row ++ [] ∷ [])
  pub byte_more : (fields : Record) (field : List ℕ) (c : ℕ) → Has (fields ++ field ∷ []) → Has (fields ++ (field ++ c ∷ []) ∷ [])
  pub not_blank : ¬ (Has ([] ∷ []))

module _ (Has : Record → Type 0) (kept : IsKept Has) where
  -- the first record is one of these
  abbrev pub StartsWith : List Record → Type 0
  StartsWith rows = (row : Record) × (rest : List Record) × (rows ≡ row ∷ rest) × Has row

  within : (s : State) (fields : Record) (field : List ℕ) → IsAt s fields field → Has (fields ++ field ∷ []) → is_between s ≡ false
  within s fields field at has = by (is_between s) refl
    where
      by : (b : Bool) → is_between s ≡ b → b ≡ false
      by true e = let blank = at.blank e in absurd (kept.not_blank (rw (blank.0, blank.1) at has))
      by false e = refl

  has-after : (a : Action) (fields : Record) (field : List ℕ) (c : ℕ) → is_end a ≡ false → Has (fields ++ field ∷ []) → Has (fields_after a fields field ++ field_after a c field ∷ [])
  has-after act.Skip fields field c e has = has
  has-after act.Copy fields field c e has = kept.byte_more fields field c has
  has-after act.EndField fields field c e has = kept.field_more (fields ++ field ∷ []) has
  has-after act.EndRecord fields field c e has = absurd (true≢false e)

  pub first-row : (s : State) (fields : Record) (field xs : List ℕ) → IsAt s fields field → Has (fields ++ field ∷ []) → StartsWith (rows_from s fields field xs)
  unfolding rows_from
  first-row s fields field [] at has = (fields ++ field ∷ [], [], rw (within-ends s at.used (within s fields field at has)) refl, has)
  first-row s fields field (c ∷ xs) at has = by (does s c at.used) (λ t f p. first-row t f p xs)
    where
      by : Does (is_between s) (step default_config s c)
          → ((t : State) (f : Record) (p : List ℕ) → IsAt t f p → Has (f ++ p ∷ []) → StartsWith (rows_from t f p xs))
          → StartsWith (rows_from s fields field (c ∷ xs))
      by (ends t e used) more = (fields ++ field ∷ [], rows_from t [] [] xs, rows-byte s t act.EndRecord fields field c xs e, has)
      by (goes t a e going used inside) more =
          subst StartsWith (sym (rows-within s t a fields field c xs e going))
          (more t (fields_after a fields field) (field_after a c field) (at-within t _ _ used inside) (has-after a fields field c going has))
      by (skips e between) more = absurd (true≢false (sym between ∙ within s fields field at has))
