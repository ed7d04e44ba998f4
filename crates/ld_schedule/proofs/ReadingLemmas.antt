-- What a history that was read, or refused, says of its bytes.
use Rattle.std.proofs.Common.{[], ◌&&◌, ◌++◌, ◌+◌, ◌<◌, ◌∙◌, ◌∷◌, ◌≡◌, ◌≤◌, ◌⊎◌, Bool, Err, IfSome, List, None, Ok, Option, Result, Some, ap, append_assoc, arith, codes, false, if◌then◌else◌, inl, inr, length, length-append, map, nat_lt, refl, slice_get, suc, sym, take, true, true≢false, zero, ℕ}
use Rattle.std.proofs.Math.Seq.{take-append_seam}
use Rattle.std.proofs.lemmas.Bool.{and_parts, cases_lt}
use Rattle.std.proofs.lemmas.Bool.Decides.{nat_tests}
use Rattle.std.proofs.lemmas.List.{append-nil, map-append, take-append-le}
use Rattle.std.proofs.lemmas.Option.{slice_get_past}
use Rattle.std.proofs.lemmas.Slice.Eq.{bytes_eq-Decides}
use Rattle.std.specs.Str.{bytes_eq}
use Rattle.csv.specs.Reading.{ReadRecord}
use Rattle.csv.specs.declared.reader.Reader.{Reader}
use Rattle.ld_trace.proofs.CsvLemmas.{given-all, given-begin, given-more}
use Rattle.ld_trace.proofs.ReadLemmas.{if-some}
use Rattle.ld_trace.proofs.TakenLemmas.{slice_get-front, slice_get-seam}
use Rattle.ld_trace.specs.Inside.Progress.{HasGiven, ReadsPlain}
use Rattle.ld_trace.specs.Reading.{records_of}
use Rattle.ld_schedule.specs.declared.limits.TheConstants.{MAX_RECORDS}
use Rattle.ld_schedule.specs.declared.read_fault.ReadFaultKind.{ReadFaultKind}
use Rattle.ld_schedule.specs.declared.read_fault.ReadFaultKind.TheVariants.{BadRecord, NoHeader, TooManyRecords}
use Rattle.ld_schedule.specs.declared.step.Step.{Step}
use Rattle.ld_schedule.specs.Inside.Progress.{AreRead, AreRefused, AreTaken, HasTaken, TakesLine, nothing_read}
use Rattle.ld_schedule.specs.Numbers.{Numbers, no_numbers}
use Rattle.ld_schedule.specs.ReadFaults.{is_of_text}
use Rattle.ld_schedule.specs.Reading.{Draft, ReadsTo, StopsAt, draft_of, fault_at, header_fault, line_fault, line_steps, numbers_after, numbers_before, record_fault, steps_from, steps_of, with_read}
use Rattle.ld_schedule.specs.Records.{Line, Record, is_header, line_of_record}

-- one more record
numbers_after-push : (numbers : Numbers) (rows : List Record) (r : Record) → numbers_after numbers (rows ++ r ∷ []) ≡ with_read (numbers_after numbers rows) (line_of_record r)
unfolding numbers_after
numbers_after-push numbers [] r = refl
numbers_after-push numbers (q ∷ rows) r = numbers_after-push (with_read numbers (line_of_record q)) rows r

steps_from-push : (numbers : Numbers) (number : ℕ) (rows : List Record) (r : Record)
    → steps_from numbers number (rows ++ r ∷ []) ≡ steps_from numbers number rows ++ line_steps (numbers_after numbers rows) (number + length rows) (line_of_record r)
unfolding steps_from numbers_after
steps_from-push numbers number [] r =
    let e : number + 0 ≡ number = omega arith in
    rw (e, append-nil (line_steps numbers number (line_of_record r))) refl
steps_from-push numbers number (q ∷ rows) r =
    let e : suc number + length rows ≡ number + suc (length rows) = omega arith in
    ap (λ steps. line_steps numbers number (line_of_record q) ++ steps) (steps_from-push (with_read numbers (line_of_record q)) (suc number) rows r)
    ∙ sym (append_assoc (line_steps numbers number (line_of_record q)) (steps_from (with_read numbers (line_of_record q)) (suc number) rows) _)
    ∙ rw e refl

draft_of-push : (rows : List Record) (r : Record) (count : ℕ) (old new : Draft) → length rows ≡ suc count → old ≡ draft_of rows → TakesLine (count + 2) old new (line_of_record r)
    → new ≡ draft_of (rows ++ r ∷ [])
draft_of-push rows r count old new counted is t = by (steps_from-push no_numbers 1 rows r) (numbers_after-push no_numbers rows r)
  where
    number : count + 2 ≡ 1 + length rows
    number = omega (arith, counted)

    by : steps_of (rows ++ r ∷ []) ≡ steps_of rows ++ line_steps (numbers_after no_numbers rows) (1 + length rows) (line_of_record r)
        → numbers_after no_numbers (rows ++ r ∷ []) ≡ with_read (numbers_after no_numbers rows) (line_of_record r) → new ≡ draft_of (rows ++ r ∷ [])
    by steps numbers =
        let of_steps : new.steps ≡ map (λ s. s.1) (steps_of (rows ++ r ∷ [])) =
        rw (steps, map-append (λ (s : ℕ × Step). s.1) (steps_of rows) (line_steps (numbers_after no_numbers rows) (1 + length rows) (line_of_record r)), ← number)
        (rw is at t.steps) in
        let of_records : new.records ≡ map (λ s. s.0) (steps_of (rows ++ r ∷ [])) =
        rw (steps, map-append (λ (s : ℕ × Step). s.0) (steps_of rows) (line_steps (numbers_after no_numbers rows) (1 + length rows) (line_of_record r)), ← number)
        (rw is at t.records) in
        let of_numbers : new.numbers ≡ numbers_after no_numbers (rows ++ r ∷ []) = rw (numbers) (rw is at t.numbers) in
        λ i. record { steps = of_steps i; records = of_records i; numbers = of_numbers i }

-- what comes first doesn't depend on what follows
fault_at-front : (rows rest : List Record) (i : ℕ) → i < length rows → fault_at (rows ++ rest) i ≡ fault_at rows i
unfolding fault_at
fault_at-front rows rest zero h = ap header_fault (slice_get-front rows rest 0 h)
fault_at-front rows rest (suc i) h =
    rw (ap (numbers_after no_numbers) (take-append-le (suc i) rows rest (omega arith)), slice_get-front rows rest (suc i) h) refl

-- past the end there is no fault
fault_at-past : (rows : List Record) (i : ℕ) → 0 < length rows → length rows ≤ i → fault_at rows i ≡ None
unfolding fault_at
fault_at-past rows zero some h = absurd (omega arith)
fault_at-past rows (suc i) some h = rw (slice_get_past rows (suc i) h) refl

-- the record after those that were taken
fault_at-next : (rows rest : List Record) (r : Record) (n : ℕ) → length rows ≡ suc n → fault_at (rows ++ r ∷ rest) (suc n) ≡ record_fault (numbers_after no_numbers rows) (suc n) (Some r)
unfolding fault_at
fault_at-next rows rest r n e =
    rw (← e, ap (numbers_after no_numbers) (take-append_seam rows (r ∷ rest)), slice_get-seam rows r rest) refl

within-last : (n : ℕ) → n < MAX_RECORDS → nat_lt MAX_RECORDS (suc n) ≡ false
within-last n h = grind (arith, nat_tests)

-- one more record was taken
taken-more : (rows : List Record) (r : Record) (count : ℕ) (old new : Draft) → AreTaken rows count old → TakesLine (count + 2) old new (line_of_record r) → count < MAX_RECORDS
    → AreTaken (rows ++ r ∷ []) (suc count) new
taken-more rows r count old new a t few = record {
  counted = omega (arith, a.counted, length-append rows (r ∷ []));
  faultless = λ i h. by i h (cases_lt i (length rows));
  is = draft_of-push rows r count old new a.counted a.is t;
}
  where
    fine : record_fault (numbers_after no_numbers rows) (suc count) (Some r) ≡ None
    fine = rw (within-last count few) (rw (ap (λ d. d.numbers) a.is) at t.faultless)

    by : (i : ℕ) → i < length (rows ++ r ∷ []) → (i < length rows) ⊎ (length rows ≤ i) → fault_at (rows ++ r ∷ []) i ≡ None
    by i h (inl lt) = fault_at-front rows (r ∷ []) i lt ∙ a.faultless i lt
    by i h (inr ge) =
        let e : i ≡ suc count = omega (arith, a.counted, length-append rows (r ∷ [])) in
        rw e (fault_at-next rows [] r count a.counted ∙ fine)

-- a header says nothing
header-says : (h : Record) → is_header h ≡ true → line_of_record h ≡ Err BadRecord
unfolding is_header line_of_record
header-says [] e = absurd (true≢false (sym e))
header-says (w ∷ []) e = absurd (true≢false (sym e))
header-says (w ∷ v ∷ []) e =
    let both = and_parts (bytes_eq w (codes "history")) (bytes_eq v (codes "1")) e in
    rw ((bytes_eq-Decides w (codes "history")).0 both.0) refl
header-says (w ∷ v ∷ x ∷ rest) e = absurd (true≢false (sym e))

-- only the header was taken
taken-header : (h : Record) → is_header h ≡ true → AreTaken (h ∷ []) 0 nothing_read
unfolding fault_at numbers_after steps_from
taken-header h e = record {
  counted = refl;
  faultless = λ i lt. let z : i ≡ 0 = omega arith in rw (z, e) refl;
  is = rw (header-says h e) refl;
}

-- the records that were taken are all
reads-to : (bytes : List ℕ) (rows : List Record) (count : ℕ) (draft : Draft) → records_of bytes ≡ rows → AreTaken rows count draft → ReadsTo bytes draft
reads-to bytes rows count draft e a = record {
  faultless = λ place. rw e (by place (cases_lt place (length rows)));
  is = rw e a.is;
}
  where
    by : (place : ℕ) → (place < length rows) ⊎ (length rows ≤ place) → fault_at rows place ≡ None
    by place (inl lt) = a.faultless place lt
    by place (inr ge) = fault_at-past rows place (omega (arith, a.counted)) ge

-- reading stopped after the records that were taken
stops-at : (bytes : List ℕ) (rows rest : List Record) (count : ℕ) (draft : Draft) (kind : ReadFaultKind) → records_of bytes ≡ rows ++ rest → AreTaken rows count draft
    → (is_of_text kind ≡ true → fault_at (rows ++ rest) (length rows) ≡ Some kind) → StopsAt bytes kind (count + 2)
stops-at bytes rows rest count draft kind e a here = record {
  place = length rows;
  number_is = omega (arith, a.counted);
  here = λ own. rw e (here own);
  before = λ i lt. rw e (fault_at-front rows rest i lt ∙ a.faultless i lt);
}

-- reading stopped at the first record
stops-first : (bytes : List ℕ) (rows : List Record) (kind : ReadFaultKind) → records_of bytes ≡ rows → (is_of_text kind ≡ true → fault_at rows 0 ≡ Some kind) → StopsAt bytes kind 1
stops-first bytes rows kind e here = record {
  place = 0;
  number_is = refl;
  here = λ own. rw e (here own);
  before = λ i lt. absurd (omega arith);
}

module _ {R : Type 0} (rem : R → Option (List ℕ)) (known : Option (List ℕ)) (a : Reader R) where
  -- the first read: the header, another record, no record, or a failure
  pub header-taken : (b : Reader R) (h : Record) → ReadsPlain a → HasGiven rem known a [] → ReadRecord rem a b true h → is_header h ≡ true → HasTaken rem known b 0 nothing_read
  header-taken b h p given read e = (h ∷ [], given-more rem known a b [] h p given read, taken-header h e)

  pub header-refused : (b : Reader R) (h : Record) → ReadsPlain a → HasGiven rem known a [] → ReadRecord rem a b true h → is_header h ≡ false → AreRefused known NoHeader 1
  unfolding fault_at
  header-refused b h p given read e =
      if-some known _ _ (λ bytes begins. stops-first bytes (h ∷ begins.0) NoHeader begins.1 (λ own. rw e refl))
      (given-begin rem known b (h ∷ []) (given-more rem known a b [] h p given read))

  pub header-missing : (b : Reader R) (f : Record) → ReadsPlain a → HasGiven rem known a [] → ReadRecord rem a b false f → AreRefused known NoHeader 1
  unfolding fault_at
  header-missing b f p given read = if-some known _ _ (λ bytes all. stops-first bytes [] NoHeader all (λ own. refl)) (given-all rem known a b [] f p given read)

  pub header-failed : (kind : ReadFaultKind) → is_of_text kind ≡ false → HasGiven rem known a [] → AreRefused known kind 1
  header-failed kind e given =
      if-some known _ _ (λ bytes begins. stops-first bytes begins.0 kind begins.1 (λ own. absurd (true≢false (sym own ∙ e))))
      (given-begin rem known a [] given)

  -- a later read: a record that is taken, one that is refused, no record, or a failure
  module _ (count : ℕ) (old : Draft) where
    pub record-taken : (b : Reader R) (r : Record) (new : Draft) → ReadsPlain a → ReadRecord rem a b true r → TakesLine (count + 2) old new (line_of_record r)
        → count < MAX_RECORDS → HasTaken rem known a count old → HasTaken rem known b (suc count) new
    record-taken b r new p read t few h =
        (h.0 ++ r ∷ [], given-more rem known a b h.0 r p h.1 read, taken-more h.0 r count old new h.2 t few)

    pub record-refused : (b : Reader R) (r : Record) (kind : ReadFaultKind) → ReadsPlain a → ReadRecord rem a b true r
        → (is_of_text kind ≡ true → record_fault old.numbers (suc count) (Some r) ≡ Some kind) → HasTaken rem known a count old → AreRefused known kind (count + 2)
    record-refused b r kind p read here h =
        if-some known _ _
        (λ bytes begins. stops-at bytes h.0 (r ∷ begins.0) count old kind (begins.1 ∙ append_assoc h.0 (r ∷ []) begins.0) h.2
        (λ own. rw h.2.counted (fault_at-next h.0 begins.0 r count h.2.counted ∙ ap (λ d. record_fault d (suc count) (Some r)) (sym (ap (λ d. d.numbers) h.2.is)) ∙ here own)))
        (given-begin rem known b (h.0 ++ r ∷ []) (given-more rem known a b h.0 r p h.1 read))

    pub records-ended : (b : Reader R) (f : Record) → ReadsPlain a → ReadRecord rem a b false f → HasTaken rem known a count old → AreRead known old
    records-ended b f p read h = if-some known _ _ (λ bytes all. reads-to bytes h.0 count old all h.2) (given-all rem known a b h.0 f p h.1 read)

    pub records-failed : (kind : ReadFaultKind) → is_of_text kind ≡ false → HasTaken rem known a count old → AreRefused known kind (count + 2)
    records-failed kind e h =
        if-some known _ _ (λ bytes begins. stops-at bytes h.0 begins.0 count old kind begins.1 h.2 (λ own. absurd (true≢false (sym own ∙ e))))
        (given-begin rem known a h.0 h.1)

-- a record that says nothing, and one that is past the last
pub refused-line : (count : ℕ) (old : Draft) (r : Record) (kind : ReadFaultKind) → count < MAX_RECORDS → line_fault old.numbers (line_of_record r) ≡ Some kind → record_fault old.numbers (suc count) (Some r) ≡ Some kind
refused-line count old r kind few e = rw (within-last count few) e

pub past-line : (count : ℕ) (old : Draft) (r : Record) → count ≡ MAX_RECORDS → record_fault old.numbers (suc count) (Some r) ≡ Some TooManyRecords
past-line count old r e = rw e refl
