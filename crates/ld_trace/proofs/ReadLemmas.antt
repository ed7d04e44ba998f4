-- What a trace that was read, or refused, says of its bytes.
use Rattle.ld_trace.proofs.Names.{[], ◌++◌, ◌+◌, ◌<◌, ◌∙◌, ◌∷◌, ◌≡◌, ◌≤◌, ◌⊎◌, All-nil, AreRead, AreRefused, AreTaken, BadRecord, Bool, Err, Event, HasGiven, HasTaken, IfSome, Irq, KeyIsBelow, KeysBelow, List, MAX_EVENTS, Name, NoHeader, None, Option, ReadRecord, Reader, ReadsPlain, ReadsTo, Record, Some, StopsAt, TakesLine, TraceFaultKind, Version, ap, append-nil, append_assoc, arith, bytes_eq, bytes_eq-Decides, cases_lt, codes, false, inl, inr, irq_line, irq_of, length, nat_lt, nat_tests, record_fault, records_of, refl, suc, sym, true, true≢false, version_in, ℕ}
use Rattle.ld_trace.specs.Lines.{line_of_record, version_of}
use Rattle.ld_trace.specs.Reading.{fault_at, names_after}
use Rattle.ld_trace.specs.TraceFaults.{is_of_text}
use Rattle.ld_trace.proofs.CsvLemmas.{given-all, given-begin, given-more}
use Rattle.ld_trace.proofs.TakenLemmas.{event_at-past, fault_at-front, fault_at-next, fault_at-past, names_before-all, taken-more, version_in-front}

-- a header says nothing
lockdep-says : (irq : Option Irq) → irq_line (codes "lockdep") irq ≡ Err BadRecord
lockdep-says None = refl
lockdep-says (Some irq) = refl

pub header-says : (version : Version) (h : Record) (named : Version) → version_of h ≡ Some named → line_of_record version h ≡ Err BadRecord
unfolding version_of line_of_record
header-says version [] named e = absurd (cc)
header-says version (w ∷ []) named e = absurd (cc)
header-says version (w ∷ v ∷ []) named e = by (bytes_eq w (codes "lockdep")) refl
  where
    by : (b : Bool) → bytes_eq w (codes "lockdep") ≡ b → line_of_record version (w ∷ v ∷ []) ≡ Err BadRecord
    by true is = rw ((bytes_eq-Decides w (codes "lockdep")).0 is) (lockdep-says (irq_of v))
    by false is = absurd (let none : version_of (w ∷ v ∷ []) ≡ None = rw is refl in cc)
header-says version (w ∷ v ∷ x ∷ rest) named e = absurd (cc)

-- only the header was taken
pub taken-header : (room : ℕ) (version : Version) (old : List Name) (h : Record) → version_of h ≡ Some version → AreTaken room version old (h ∷ []) old []
unfolding fault_at names_after
taken-header room version old h e = record {
  version_is = rw e refl;
  count = refl;
  faultless = λ i lt. let z : i ≡ 0 = omega arith in rw (z, e) refl;
  each = λ i. sym (event_at-past version old (h ∷ []) (suc i) (omega arith));
  names = rw (header-says version h version e) refl;
  below = All-nil (KeyIsBelow (length old));
  added = ([], sym (append-nil old));
}

-- the records that were taken are all: the trace was read
pub reads-to : (room : ℕ) (version : Version) (old : List Name) (bytes : List ℕ) (rows : List Record) (now : List Name) (events : List Event) → records_of bytes ≡ rows → AreTaken room version old rows now events → ReadsTo room old bytes now events
reads-to room version old bytes rows now events e a = record {
  faultless = λ place. rw (e, a.version_is) (by place (cases_lt place (length rows)));
  count = rw e a.count;
  each = λ i. rw (e, a.version_is) (a.each i);
  names = rw (e, a.version_is) a.names;
}
  where
    by : (place : ℕ) → (place < length rows) ⊎ (length rows ≤ place) → fault_at room version old rows place ≡ None
    by place (inl lt) = a.faultless place lt
    by place (inr ge) = fault_at-past room version old rows place (omega (arith, a.count)) ge

-- reading stopped after the records that were taken
stops-at : (room : ℕ) (version : Version) (old : List Name) (bytes : List ℕ) (rows rest : List Record) (now : List Name) (events : List Event) (kind : TraceFaultKind) → records_of bytes ≡ rows ++ rest → AreTaken room version old rows now events
    → (is_of_text kind ≡ true → fault_at room version old (rows ++ rest) (length rows) ≡ Some kind) → StopsAt room old bytes now (record { kind = kind; at = length events + 2 })
stops-at room version old bytes rows rest now events kind e a here = record {
  place = length rows;
  number = omega (arith, a.count);
  here = λ own. rw (e, named) (here own);
  before = λ i lt. rw (e, named) (fault_at-front room version old rows rest i lt ∙ a.faultless i lt);
  names = rw (e, named) (a.names ∙ sym (names_before-all version old rows rest));
}
  where
    named : version_in (rows ++ rest) ≡ version
    named = version_in-front rows rest (omega (arith, a.count)) ∙ a.version_is

-- reading stopped at the first record
stops-first : (room : ℕ) (old : List Name) (bytes : List ℕ) (rows : List Record) (kind : TraceFaultKind) → records_of bytes ≡ rows
    → (is_of_text kind ≡ true → fault_at room (version_in rows) old rows 0 ≡ Some kind) → StopsAt room old bytes old (record { kind = kind; at = 1 })
unfolding names_after
stops-first room old bytes rows kind e here = record {
  place = 0;
  number = refl;
  here = λ own. rw e (here own);
  before = λ i lt. absurd (omega arith);
  names = sym (names_before-all (version_in (records_of bytes)) old [] (records_of bytes));
}

pub if-some : {X : Type 0} (known : Option X) (P Q : X → Type 0) → ((x : X) → P x → Q x) → IfSome known P → IfSome known Q
if-some None P Q f h = tt
if-some (Some x) P Q f h = f x h

module _ {R : Type 0} (rem : R → Option (List ℕ)) (known : Option (List ℕ)) (room : ℕ) (old : List Name) (a : Reader R) where
  -- the first read: the header, another record, no record, or a failure
  pub header-taken : (version : Version) (b : Reader R) (h : Record) → ReadsPlain a → HasGiven rem known a [] → ReadRecord rem a b true h → version_of h ≡ Some version → HasTaken rem known b room version old old []
  header-taken version b h p given read e = (h ∷ [], given-more rem known a b [] h p given read, taken-header room version old h e)

  pub header-refused : (b : Reader R) (h : Record) → ReadsPlain a → HasGiven rem known a [] → ReadRecord rem a b true h → version_of h ≡ None → AreRefused room known old old NoHeader 1
  unfolding fault_at
  header-refused b h p given read e =
      if-some known _ _ (λ bytes begins. stops-first room old bytes (h ∷ begins.0) NoHeader begins.1 (λ own. rw e refl))
      (given-begin rem known b (h ∷ []) (given-more rem known a b [] h p given read))

  pub header-missing : (b : Reader R) (f : Record) → ReadsPlain a → HasGiven rem known a [] → ReadRecord rem a b false f → AreRefused room known old old NoHeader 1
  unfolding fault_at
  header-missing b f p given read = if-some known _ _ (λ bytes all. stops-first room old bytes [] NoHeader all (λ own. refl)) (given-all rem known a b [] f p given read)

  pub header-failed : (kind : TraceFaultKind) → is_of_text kind ≡ false → HasGiven rem known a [] → AreRefused room known old old kind 1
  header-failed kind e given =
      if-some known _ _ (λ bytes begins. stops-first room old bytes begins.0 kind begins.1 (λ own. absurd (true≢false (sym own ∙ e))))
      (given-begin rem known a [] given)

  -- a later read: an event, a record that is refused, no record, or a failure
  module _ (version : Version) (now : List Name) (events : List Event) where
    pub event-taken : (b : Reader R) (r : Record) (new : List Name) (after : List Event) → ReadsPlain a → ReadRecord rem a b true r → TakesLine room version now new events after r
        → length events < MAX_EVENTS → HasTaken rem known a room version old now events → HasTaken rem known b room version old new after
    event-taken b r new after p read t few h =
        (h.0 ++ r ∷ [], given-more rem known a b h.0 r p h.1 read, taken-more room version old h.0 now new events after r h.2 t few)

    pub event-refused : (b : Reader R) (r : Record) (kind : TraceFaultKind) → ReadsPlain a → ReadRecord rem a b true r
        → (is_of_text kind ≡ true → record_fault room version now (suc (length events)) (Some r) ≡ Some kind) → HasTaken rem known a room version old now events
        → AreRefused room known old now kind (length events + 2)
    event-refused b r kind p read here h =
        if-some known _ _
        (λ bytes begins. stops-at room version old bytes h.0 (r ∷ begins.0) now events kind (begins.1 ∙ append_assoc h.0 (r ∷ []) begins.0) h.2 (λ own.
        let at : length h.0 ≡ suc (length events) = h.2.count in
        rw at (fault_at-next room version old h.0 begins.0 r (length events) at ∙ ap (λ names. record_fault room version names (suc (length events)) (Some r)) (sym h.2.names) ∙ here own)))
        (given-begin rem known b (h.0 ++ r ∷ []) (given-more rem known a b h.0 r p h.1 read))

    pub events-ended : (b : Reader R) (f : Record) → ReadsPlain a → ReadRecord rem a b false f → HasTaken rem known a room version old now events
        → AreRead room known old now events × KeysBelow (length now) events
    events-ended b f p read h = (if-some known _ _ (λ bytes all. reads-to room version old bytes h.0 now events all h.2) (given-all rem known a b h.0 f p h.1 read), h.2.below)

    pub events-failed : (kind : TraceFaultKind) → is_of_text kind ≡ false → HasTaken rem known a room version old now events → AreRefused room known old now kind (length events + 2)
    events-failed kind e h =
        if-some known _ _ (λ bytes begins. stops-at room version old bytes h.0 begins.0 now events kind begins.1 h.2 (λ own. absurd (true≢false (sym own ∙ e))))
        (given-begin rem known a h.0 h.1)

-- whether a place is past the last that may hold an event's record
pub past-last : (n : ℕ) → MAX_EVENTS ≤ n → nat_lt MAX_EVENTS (suc n) ≡ true
past-last n h = grind (arith, nat_tests)

pub within-last : (n : ℕ) → n < MAX_EVENTS → nat_lt MAX_EVENTS (suc n) ≡ false
within-last n h = grind (arith, nat_tests)
