-- One more record, its fault and its event.
use Rattle.ld_trace.proofs.Names.{[], ◌++◌, ◌+◌, ◌<◌, ◌||◌, ◌∙◌, ◌∷◌, ◌≡◌, ◌≤◌, ◌⊎◌, Acquire, All-push, AreTaken, Bool, Enter, Event, KeyIsBelow, KeysBelow, Leave, Line, List, MAX_EVENTS, Name, None, Record, Release, Some, TakesLine, TurnOff, TurnOn, Version, ap, append-nil, append_assoc, arith, cases_lt, cond, enters, event_of, false, get_or, gives_back, header_fault, if◌then◌else◌, inl, inr, is_known, is_same, leaves, length, length-append, line_event, list_any, names_before, nat_lt, nat_tests, not, place_of, position_or_len, prefix_len-le-length, record_fault, refl, slice_get, slice_get_past, suc, sym, take-append-le, take-append_seam, takes, true, true≢false, turns_off, turns_on, version_in, with_line, with_name, with_read, zero, ℕ}
use Rattle.std.proofs.Math.Nat.{eq-or-lt_of_le}
use Rattle.ld_trace.specs.Lines.{line_of_record}
use Rattle.ld_trace.specs.Reading.{event_at, fault_at, names_after}

-- places in a longer list
pub slice_get-front : {X : Type 0} (xs ys : List X) (i : ℕ) → i < length xs → slice_get (xs ++ ys) i ≡ slice_get xs i
slice_get-front [] ys i h = absurd (omega arith)
slice_get-front (x ∷ xs) ys zero h = refl
slice_get-front (x ∷ xs) ys (suc i) h = slice_get-front xs ys i (omega arith)

pub slice_get-seam : {X : Type 0} (xs : List X) (x : X) (ys : List X) → slice_get (xs ++ x ∷ ys) (length xs) ≡ Some x
slice_get-seam [] x ys = refl
slice_get-seam (y ∷ xs) x ys = slice_get-seam xs x ys

-- the version is that of the first record
pub version_in-front : (rows rest : List Record) → 0 < length rows → version_in (rows ++ rest) ≡ version_in rows
version_in-front [] rest h = absurd (omega arith)
version_in-front (r ∷ rows) rest h = refl

-- the names after one more record
pub names_after-push : (version : Version) (old : List Name) (rows : List Record) (r : Record) → names_after version old (rows ++ r ∷ []) ≡ with_read (names_after version old rows) (line_of_record version r)
unfolding names_after
names_after-push version old [] r = refl
names_after-push version old (q ∷ rows) r = names_after-push version (with_read old (line_of_record version q)) rows r

-- what comes first doesn't depend on what follows
pub names_before-front : (version : Version) (old : List Name) (rows rest : List Record) (i : ℕ) → i ≤ length rows → names_before version old (rows ++ rest) i ≡ names_before version old rows i
names_before-front version old rows rest i h = ap (names_after version old) (take-append-le i rows rest h)

pub names_before-all : (version : Version) (old : List Name) (rows rest : List Record) → names_before version old (rows ++ rest) (length rows) ≡ names_after version old rows
names_before-all version old rows rest = ap (names_after version old) (take-append_seam rows rest)

pub fault_at-front : (room : ℕ) (version : Version) (old : List Name) (rows rest : List Record) (i : ℕ) → i < length rows → fault_at room version old (rows ++ rest) i ≡ fault_at room version old rows i
unfolding fault_at
fault_at-front room version old rows rest zero h = ap header_fault (slice_get-front rows rest 0 h)
fault_at-front room version old rows rest (suc i) h = rw (names_before-front version old rows rest (suc i) (omega arith), slice_get-front rows rest (suc i) h)

pub event_at-front : (version : Version) (old : List Name) (rows rest : List Record) (i : ℕ) → i < length rows → event_at version old (rows ++ rest) i ≡ event_at version old rows i
unfolding event_at
event_at-front version old rows rest i h = rw (names_before-front version old rows rest i (omega arith), slice_get-front rows rest i h)

-- past the end there is neither a fault nor an event
pub fault_at-past : (room : ℕ) (version : Version) (old : List Name) (rows : List Record) (i : ℕ) → 0 < length rows → length rows ≤ i → fault_at room version old rows i ≡ None
unfolding fault_at
fault_at-past room version old rows zero some h = absurd (omega arith)
fault_at-past room version old rows (suc i) some h = rw (slice_get_past rows (suc i) h)

pub event_at-past : (version : Version) (old : List Name) (rows : List Record) (i : ℕ) → length rows ≤ i → event_at version old rows i ≡ None
unfolding event_at
event_at-past version old rows i h = rw (slice_get_past rows i h)

-- the record after those that were taken
pub fault_at-next : (room : ℕ) (version : Version) (old : List Name) (rows rest : List Record) (r : Record) (n : ℕ) → length rows ≡ suc n
    → fault_at room version old (rows ++ r ∷ rest) (suc n) ≡ record_fault room version (names_after version old rows) (suc n) (Some r)
unfolding fault_at
fault_at-next room version old rows rest r n e = rw (← e, names_before-all version old rows (r ∷ rest), slice_get-seam rows r rest)

pub event_at-next : (version : Version) (old : List Name) (rows rest : List Record) (r : Record) (n : ℕ) → length rows ≡ suc n
    → event_at version old (rows ++ r ∷ rest) (suc n) ≡ line_event (names_after version old rows) (line_of_record version r)
unfolding event_at
event_at-next version old rows rest r n e = rw (← e, names_before-all version old rows (r ∷ rest), slice_get-seam rows r rest)

-- a record that was taken has no fault
taken-faultless : (room : ℕ) (version : Version) (now new : List Name) (before after : List Event) (r : Record) (place : ℕ) → TakesLine room version now new before after r → place ≤ MAX_EVENTS
    → record_fault room version now place (Some r) ≡ None
taken-faultless room version now new before after r place t few = rw (few-places place few, t.says, t.fits)
  where
    few-places : (p : ℕ) → p ≤ MAX_EVENTS → nat_lt MAX_EVENTS p ≡ false
    few-places p h = grind (arith, nat_tests)

-- and stands for its event
taken-event : (room : ℕ) (version : Version) (now new : List Name) (before after : List Event) (r : Record) (t : TakesLine room version now new before after r) → line_event now (line_of_record version r) ≡ Some (event_of now t.line)
taken-event room version now new before after r t = rw t.says refl

-- the place of a known name is within the names
first-below : {X : Type 0} (p : X → Bool) (xs : List X) → list_any p xs ≡ true → position_or_len p xs < length xs
first-below p [] h = absurd (true≢false (sym h))
first-below p (x ∷ xs) h = by (p x) (first-below p xs) h
  where
    by : (b : Bool) → (list_any p xs ≡ true → position_or_len p xs < length xs) → (b || list_any p xs) ≡ true → cond (not b) (1 + position_or_len p xs) 0 < length (x ∷ xs)
    by true rest g = omega arith
    by false rest g = omega (arith, rest g)

-- and that of each name within the names with it
pub place-below : (names : List Name) (name : Name) → place_of names name < length (with_name names name)
place-below names name = by (is_known names name) refl
  where
    by : (b : Bool) → is_known names name ≡ b → place_of names name < length (if b then names else names ++ name ∷ [])
    by true e = first-below (is_same name) names e
    by false e = omega (arith, prefix_len-le-length (λ x. not (is_same name x)) names, length-append names (name ∷ []))

pub with_name-added : (names : List Name) (name : Name) → (more : List Name) × (with_name names name ≡ names ++ more)
with_name-added names name = by (is_known names name)
  where
    by : (b : Bool) → (more : List Name) × ((if b then names else names ++ name ∷ []) ≡ names ++ more)
    by true = ([], sym (append-nil names))
    by false = (name ∷ [], refl)

pub with_line-added : (names : List Name) (line : Line) → (more : List Name) × (with_line names line ≡ names ++ more)
with_line-added names (takes name mode) = with_name-added names name
with_line-added names (gives_back name) = with_name-added names name
with_line-added names (enters irq) = ([], sym (append-nil names))
with_line-added names leaves = ([], sym (append-nil names))
with_line-added names (turns_on irq) = ([], sym (append-nil names))
with_line-added names (turns_off irq) = ([], sym (append-nil names))

length-with_line : (names : List Name) (line : Line) → length names ≤ length (with_line names line)
length-with_line names line = let a = with_line-added names line in omega (arith, ap length a.1, length-append names a.0)

event-below : (names : List Name) (line : Line) → KeyIsBelow (length (with_line names line)) (event_of names line)
event-below names (takes name mode) = place-below names name
event-below names (gives_back name) = place-below names name
event-below names (enters irq) = tt
event-below names leaves = tt
event-below names (turns_on irq) = tt
event-below names (turns_off irq) = tt

pub KeyIsBelow-mono : (m n : ℕ) (event : Event) → m ≤ n → KeyIsBelow m event → KeyIsBelow n event
KeyIsBelow-mono m n (Acquire mode key) h below = omega arith
KeyIsBelow-mono m n (Release key) h below = omega arith
KeyIsBelow-mono m n (Enter irq) h below = tt
KeyIsBelow-mono m n Leave h below = tt
KeyIsBelow-mono m n (TurnOn irq) h below = tt
KeyIsBelow-mono m n (TurnOff irq) h below = tt

KeysBelow-mono : (m n : ℕ) (events : List Event) → m ≤ n → KeysBelow m events → KeysBelow n events
KeysBelow-mono m n events h below = λ k d lt. KeyIsBelow-mono m n (get_or events k d) h (below k d lt)

-- one more record was taken
module _ (room : ℕ) (version : Version) (old : List Name) (rows : List Record) (now new : List Name) (before after : List Event) (r : Record)
    (a : AreTaken room version old rows now before) (t : TakesLine room version now new before after r) (few : length before < MAX_EVENTS) where
  more-faultless : (i : ℕ) → i < length (rows ++ r ∷ []) → fault_at room version old (rows ++ r ∷ []) i ≡ None
  more-faultless i h = by (cases_lt i (length rows))
    where
      by : (i < length rows) ⊎ (length rows ≤ i) → fault_at room version old (rows ++ r ∷ []) i ≡ None
      by (inl lt) = fault_at-front room version old rows (r ∷ []) i lt ∙ a.faultless i lt
      by (inr ge) =
          let e : i ≡ suc (length before) = omega (arith, a.count, length-append rows (r ∷ [])) in
          rw e
          (fault_at-next room version old rows [] r (length before) a.count
          ∙ ap (λ names. record_fault room version names (suc (length before)) (Some r)) (sym a.names)
          ∙ taken-faultless room version now new before after r (suc (length before)) t few)

  more-each : (i : ℕ) → slice_get after i ≡ event_at version old (rows ++ r ∷ []) (suc i)
  more-each i = rw t.events (by (cases_lt i (length before)))
    where
      later : (length before ≡ i) ⊎ (length before < i) → slice_get (before ++ event_of now t.line ∷ []) i ≡ event_at version old (rows ++ r ∷ []) (suc i)
      later (inl e) =
          rw (← e)
          (slice_get-seam before (event_of now t.line) []
          ∙ sym (event_at-next version old rows [] r (length before) a.count ∙ ap (λ names. line_event names (line_of_record version r)) (sym a.names) ∙ taken-event room version now new before after r t))
      later (inr gt) =
          slice_get_past (before ++ event_of now t.line ∷ []) i (omega (arith, length-append before (event_of now t.line ∷ [])))
          ∙ sym (event_at-past version old (rows ++ r ∷ []) (suc i) (omega (arith, a.count, length-append rows (r ∷ []))))

      by : (i < length before) ⊎ (length before ≤ i) → slice_get (before ++ event_of now t.line ∷ []) i ≡ event_at version old (rows ++ r ∷ []) (suc i)
      by (inl lt) =
          slice_get-front before (event_of now t.line ∷ []) i lt ∙ a.each i ∙ sym (event_at-front version old rows (r ∷ []) (suc i) (omega (arith, a.count)))
      by (inr ge) = later (eq-or-lt_of_le ge)

  pub taken-more : AreTaken room version old (rows ++ r ∷ []) new after
  taken-more = record {
    version_is = version_in-front rows (r ∷ []) (omega (arith, a.count)) ∙ a.version_is;
    count = rw t.events (omega (arith, a.count, length-append rows (r ∷ []), length-append before (event_of now t.line ∷ [])));
    faultless = more-faultless;
    each = more-each;
    names = t.names ∙ rw (names_after-push version old rows r, ← a.names, t.says);
    below =
        rw (t.events, t.names)
        (All-push (KeyIsBelow (length (with_line now t.line))) before (event_of now t.line) (KeysBelow-mono _ _ before (length-with_line now t.line) a.below) (event-below now t.line));
    added =
        let m = with_line-added now t.line in
        (a.added.0 ++ m.0, t.names ∙ m.1 ∙ ap (λ l. l ++ m.0) a.added.1 ∙ append_assoc old a.added.0 m.0);
  }
