-- The text of an event whose key the table has is a line of a trace, and stands for that event.
use Rattle.std.proofs.Common.{◌≡◌, ℕ, ◌+◌, ◌≤◌, ◌<◌, not, Bool, true, false, true≢false, List, [], ◌∷◌, ◌++◌, All, length, get_or, unwrap_or, Some, Ok, refl, sym, ap, ◌∙◌, subst, arith, append_assoc}
use Rattle.std.proofs.lemmas.List.{append-nil}
use Rattle.csv.specs.Reading.{Reached, default_config}
use Rattle.csv.specs.Writing.{default_writer, escaped, fields_text, is_blank, read_back, row_body}
use Rattle.csv.specs.declared.parser.State.TheVariants as st
use Rattle.csv.proofs.RoundTrip.{read-write}
use Rattle.ld_trace.specs.declared.event.Event.{Event}
use Rattle.ld_trace.specs.declared.event.Event.TheVariants.{Acquire, Release, Enter, Leave, TurnOn, TurnOff}
use Rattle.ld_trace.specs.declared.raw_trace.TheConstants.{MAX_EVENTS}
use Rattle.ld_trace.specs.declared.version.Version.{Version}
use Rattle.ld_trace.specs.declared.version.Version.TheVariants.{One, Two}
use Rattle.ld_trace.specs.Events.{KeyIsBelow, is_try}
use Rattle.ld_trace.specs.declared.known_lines.KnownLine.{KnownLine}
use Rattle.ld_trace.specs.Inside.KnownLines.{IsKnownLine, ReadsOn, SeenAfter, TakesEvent, TakesKnown}
use Rattle.ld_trace.specs.KnownLines.{KnownLinesRead, KnownLinesStay, WrittenLinesRead, has_event, line_text}
use Rattle.ld_trace.specs.Laws.{with_lines}
use Rattle.ld_trace.specs.Lines.{Line, takes, gives_back, enters, leaves, turns_on, turns_off, event_of, line_of_record, version_of, with_line}
use Rattle.ld_trace.specs.Names.{AreNumbered, Name, is_same}
use Rattle.ld_trace.specs.Pieces.{AreLines, header_line}
use Rattle.ld_trace.specs.Reading.{ReadsTo, records_of}
use Rattle.ld_trace.specs.Writing.{event_text, header_of, line_at, name_at, record_of, record_text}
use Rattle.ld_trace.proofs.CsvLemmas.{records-all}
use Rattle.ld_trace.proofs.LineLemmas.{Say, events_with, taken-said}
use Rattle.ld_trace.proofs.PieceLemmas.{pieces-join}
use Rattle.ld_trace.proofs.ReadBack.{Has, ended, line-good, line-known, line_of_record-of, no-mark, read_back-header, read_back-record}
use Rattle.ld_trace.proofs.ReadLemmas.{reads-to, taken-header}
use Rattle.ld_trace.proofs.TakenLemmas.{KeyIsBelow-mono, slice_get-front, with_name-added}
use Rattle.ld_trace.proofs.KnownLemmas.{is_same-laws}
use Rattle.ld_trace.proofs.StoredLemmas.{AreNumbered-first}
use Rattle.ld_trace.proofs.TakenIn.{length-first}
use Rattle.ld_trace.proofs.Advancing.{on-more, on-nothing}
use Rattle.std.specs.List.{AllByRecursion, IsDistinct, list_any, position_or_len}
use Rattle.std.proofs.Common.{take-append-drop}
use Rattle.std.proofs.lemmas.Bool.{cases_lt, or_parts}
use Rattle.std.proofs.Common.{◌⊎◌, inl, inr, take, drop, suc, zero, length-append}
use Rattle.ld_trace.specs.Names.{Table, is_known, place_of, with_name}

-- ---- a header and the text of one event
not-try : (b : Bool) → not b ≡ true → b ≡ false
not-try true h = absurd (true≢false (sym h))
not-try false h = refl

has : (version : Version) (event : Event) → has_event version event ≡ true → Has version event
has One event h = not-try (is_try event) h
has Two event h = tt

header-text : (version : Version) → header_line version ≡ record_text (header_of version)
unfolding fields_text is_blank escaped
header-text One = refl
header-text Two = refl

version_of-header : (version : Version) → version_of (header_of version) ≡ Some version
unfolding version_of
version_of-header One = refl
version_of-header Two = refl

one-reached : (version : Version) (line : Line) → Reached default_config st.StartRecord (record_text (header_of version) ++ line_text line) (header_of version ∷ record_of line ∷ []) st.StartRecord []
unfolding Reached
one-reached version line =
    let first = header_of version in
    let row = record_of line in
    let next = read-write row [] in (
      (read_back first, st.StartRecord, line_text line),
      read-write first (line_text line),
      sym (read_back-header version),
      ((read_back row, st.StartRecord, []), (rw (append-nil (record_text row)) at next), sym (read_back-record line), (refl, refl)),
    )

one-records : (version : Version) (line : Line) → records_of (header_line version ++ line_text line) ≡ header_of version ∷ record_of line ∷ []
one-records version line =
    let rows = header_of version ∷ record_of line ∷ [] in
    let text = record_text (header_of version) ++ line_text line in
    ap (λ front. records_of (front ++ line_text line)) (header-text version)
    ∙ records-all text st.StartRecord [] rows
    (subst (λ bytes. Reached default_config st.StartRecord bytes rows st.StartRecord []) (sym (no-mark version (line_text line))) (one-reached version line)) ended

-- so it is a trace of one event
one-reads : (room : ℕ) (version : Version) (names : List Name) (line : Line) → line_of_record version (record_of line) ≡ Ok line → length (with_line names line) ≤ room
    → ReadsTo room names (header_line version ++ line_text line) (with_line names line) (event_of names line ∷ [])
unfolding with_lines
one-reads room version names line says fits =
    let header = taken-header room version names (header_of version) (version_of-header version) in
    let say : Say version (record_of line ∷ []) (line ∷ []) = (says, tt) in
    let taken = taken-said room version names (header_of version ∷ []) names [] (record_of line ∷ []) (line ∷ []) header say (omega arith) fits in
    reads-to room version names (header_line version ++ line_text line) (header_of version ∷ record_of line ∷ []) (with_lines names (line ∷ [])) (events_with names (line ∷ []))
    (one-records version line) taken

-- ---- the laws
row-ends : (line : Line) → (most : List ℕ) × (line_text line ≡ most ++ 10 ∷ [])
unfolding is_blank
row-ends (takes name mode) = (row_body default_writer (record_of (takes name mode)), refl)
row-ends (gives_back name) = (row_body default_writer (record_of (gives_back name)), refl)
row-ends (enters irq) = (row_body default_writer (record_of (enters irq)), refl)
row-ends leaves = (row_body default_writer (record_of leaves), refl)
row-ends (turns_on irq) = (row_body default_writer (record_of (turns_on irq)), refl)
row-ends (turns_off irq) = (row_body default_writer (record_of (turns_off irq)), refl)

more-lines : (version : Version) (line : Line) (done : List ℕ) → AreLines version done → AreLines version (done ++ line_text line)
more-lines version line done lines =
    let ends = row-ends line in
    record {
      more = lines.more ++ line_text line;
      begin = ap (λ bytes. bytes ++ line_text line) lines.begin ∙ append_assoc (header_line version) lines.more (line_text line);
      most = done ++ ends.0;
      end = ap (λ bytes. done ++ bytes) ends.1 ∙ sym (append_assoc done ends.0 (10 ∷ []));
    }

pub written-lines-read : WrittenLinesRead
written-lines-read room version old names done events line says fits few lines first = (
  more-lines version line done lines,
  pieces-join room room version old names (with_line names line) done (line_text line) events (event_of names line ∷ []) lines first (one-reads room version names line says fits) fits (omega arith),
)

pub known-lines-read : KnownLinesRead
known-lines-read room version old names done events event numbered below can few lines first =
    let line = line_at names event in
    let known = line-known names event numbered.once below in
    let says = line_of_record-of version line (line-good version names event numbered.named below (has version event can)) in
    let fits : length (with_line names line) ≤ room = rw known.0 numbered.few in
    rw (known.0, known.1) at (written-lines-read room version old names done events line says fits few lines first)

-- a name that is there stays where it is
same-name_at : (names more : List Name) (key : ℕ) → key < length names → name_at (names ++ more) key ≡ name_at names key
same-name_at names more key below = ap (λ found. unwrap_or found ([], 0)) (slice_get-front names more key below)

pub known-lines-stay : KnownLinesStay
known-lines-stay names more (Acquire mode key) below = rw (same-name_at names more key below) refl
known-lines-stay names more (Release key) below = rw (same-name_at names more key below) refl
known-lines-stay names more (Enter irq) below = refl
known-lines-stay names more Leave below = refl
known-lines-stay names more (TurnOn irq) below = refl
known-lines-stay names more (TurnOff irq) below = refl

-- lines that a table knows stay so when it gets another name
known-added : (names more : List Name) (lines : List KnownLine) → All (IsKnownLine names) lines → All (IsKnownLine (names ++ more)) lines
known-added names more lines all k d lt =
    let one = all k d lt in
    let event = (get_or lines k d).event in
    (KeyIsBelow-mono (length names) (length (names ++ more)) event (omega (arith, length-append names more)) one.0, one.1 ∙ sym (known-lines-stay names more event one.0))

pub lines-with_name : (names : List Name) (name : Name) (lines : List KnownLine) → All (IsKnownLine names) lines → All (IsKnownLine (with_name names name)) lines
lines-with_name names name lines all =
    let added = with_name-added names name in
    rw added.1 (known-added names added.0 lines all)

-- ---- the name that comes next
at-end : (key before : ℕ) → ¬ (key < before) → key < before + 1 → key ≡ before
at-end key before later within = by (cases_lt key before)
  where
    by : (key < before) ⊎ (before ≤ key) → key ≡ before
    by (inl lt) = absurd (later lt)
    by (inr ge) = omega (arith, ge, within)

-- it isn't among those before it
next-new : (names : List Name) (k : ℕ) → IsDistinct is_same names → k < length names → is_known (take k names) (name_at names k) ≡ false
unfolding IsDistinct
next-new [] k once h = absurd (omega arith)
next-new (x ∷ xs) zero once h = refl
next-new (x ∷ xs) (suc k) once h =
    let miss : is_same (name_at xs k) x ≡ false = is_same-laws.symm (name_at xs k) x ∙ differs xs k once.0 (omega arith) in
    rw (miss, next-new xs k once.1 (omega arith)) refl
  where
    differs : (ys : List Name) (j : ℕ) → AllByRecursion (λ y. is_same x y ≡ false) ys → j < length ys → is_same x (name_at ys j) ≡ false
    differs [] j all lt = absurd (omega arith)
    differs (y ∷ ys) zero all lt = all.0
    differs (y ∷ ys) (suc j) all lt = differs ys j all.1 (omega arith)

-- so it goes last
take-next : (names : List Name) (k : ℕ) → k < length names → take k names ++ name_at names k ∷ [] ≡ take (k + 1) names
take-next names k below = let more : suc k ≡ k + 1 = omega arith in by names k below ∙ ap (λ n. take n names) more
  where
    by : (ns : List Name) (j : ℕ) → j < length ns → take j ns ++ name_at ns j ∷ [] ≡ take (suc j) ns
    by [] j h = absurd (omega arith)
    by (x ∷ xs) zero h = refl
    by (x ∷ xs) (suc j) h = ap (λ l. x ∷ l) (by xs j (omega arith))

place-new : {X : Type 0} (p : X → Bool) (xs : List X) → list_any p xs ≡ false → position_or_len p xs ≡ length xs
place-new p [] h = refl
place-new p (x ∷ xs) h =
    let parts = or_parts (p x) (list_any p xs) h in
    rw (parts.0, place-new p xs parts.1) (omega arith)

-- and its line adds it, and stands for its key
abbrev IsNext : List Name → ℕ → Event → Type 0
IsNext names before event = (before < length names) × (with_line (take before names) (line_at names event) ≡ take (before + 1) names) × (event_of (take before names) (line_at names event) ≡ event)

next-name : (names : List Name) (before : ℕ) → IsDistinct is_same names → before < length names
    → (with_name (take before names) (name_at names before) ≡ take (before + 1) names) × (place_of (take before names) (name_at names before) ≡ before)
next-name names before once below =
    let new = next-new names before once below in (
      rw new (take-next names before below),
      place-new (is_same (name_at names before)) (take before names) new ∙ length-first names before (omega arith),
    )

next-line : (names : List Name) (before : ℕ) (event : Event) → IsDistinct is_same names → KeyIsBelow (length names) event → ¬ (KeyIsBelow before event) → KeyIsBelow (before + 1) event → IsNext names before event
next-line names before (Acquire mode key) once below later within =
    let same : key ≡ before = at-end key before later within in
    let next = next-name names before once (rw same at below) in
    rw same (rw same at below, next.0, ap (Acquire mode) next.1)
next-line names before (Release key) once below later within =
    let same : key ≡ before = at-end key before later within in
    let next = next-name names before once (rw same at below) in
    rw same (rw same at below, next.0, ap Release next.1)
next-line names before (Enter irq) once below later within = absurd (later tt)
next-line names before Leave once below later within = absurd (later tt)
next-line names before (TurnOn irq) once below later within = absurd (later tt)
next-line names before (TurnOff irq) once below later within = absurd (later tt)

-- ---- lines that are taken
KeyIsBelow-first : (names : List Name) (before : ℕ) (event : Event) → before ≤ length names → KeyIsBelow before event → KeyIsBelow (length (take before names)) event
KeyIsBelow-first names before event within below = rw (length-first names before within) below

pub seen-on : (table : Table) (version : Version) (before after : ℕ) (events : List Event) (event : Event) → AreNumbered table → KeyIsBelow (length table.names) event → has_event version event ≡ true
    → length events < MAX_EVENTS → before ≤ length table.names → SeenAfter before event after
    → (before ≤ after) × (after ≤ length table.names) × ReadsOn version table.room (take before table.names) (take after table.names) events (events ++ event ∷ []) (event_text table.names event)
seen-on table version before after events event numbered below can few within (inl (same, seen)) =
    let names = table.names in
    let known = KeyIsBelow-first names before event within seen in
    let text : event_text names event ≡ event_text (take before names) event =
    rw (take-append-drop before names) at (known-lines-stay (take before names) (drop before names) event known) in
    rw same (
      omega arith,
      within,
      record {
        added = ([], sym (append-nil (take before names)));
        lines = λ done lines. more-lines version (line_at names event) done lines;
        reads = λ old done lines first.
            rw text (known-lines-read table.room version old (take before names) done events event (AreNumbered-first table.room before names numbered) known can few lines first).1;
      },
    )
seen-on table version before after events event numbered below can few within (inr (next, later, seen)) =
    let names = table.names in
    let is = next-line names before event numbered.once below later (rw next at seen) in
    let line = line_at names event in
    let says = line_of_record-of version line (line-good version names event numbered.named below (has version event can)) in
    let fits : length (with_line (take before names) line) ≤ table.room = rw is.1 (omega (arith, length-first names (before + 1) (omega (arith, is.0)), numbered.few, is.0)) in
    rw next (
      omega arith,
      omega (arith, is.0),
      record {
        added = (name_at names before ∷ [], sym (take-next names before is.0));
        lines = λ done lines. more-lines version line done lines;
        reads = λ old done lines first. rw (is.1, is.2) at (written-lines-read table.room version old (take before names) done events line says fits few lines first).1;
      },
    )

pub takes-known : (version : Version) (lines : List KnownLine) (number : ℕ) (known : KnownLine) (before after : ℕ) (events more : List Event) (taken : List ℕ)
    → number < length lines → known ≡ get_or lines number known → TakesEvent version known.event before after events more
    → taken ≡ known.text.items → TakesKnown version lines before after events more taken
takes-known version lines number known before after events more taken lt there added bytes table numbered all within =
    let one : IsKnownLine table.names known = subst (IsKnownLine table.names) (sym there) (all number known lt) in
    rw (bytes, one.1, added.3) (seen-on table version before after events known.event numbered one.0 added.0 added.1 within added.2)

pub takes-none : (version : Version) (lines : List KnownLine) (seen : ℕ) (events : List Event) → TakesKnown version lines seen seen events events []
takes-none version lines seen events table numbered all within = (omega arith, within, on-nothing version table.room (take seen table.names) events)

pub takes-more : (version : Version) (lines : List KnownLine) (s1 s2 s3 : ℕ) (e1 e2 e3 : List Event) (front more : List ℕ) → TakesKnown version lines s1 s2 e1 e2 front → TakesKnown version lines s2 s3 e2 e3 more
    → TakesKnown version lines s1 s3 e1 e3 (front ++ more)
takes-more version lines s1 s2 s3 e1 e2 e3 front more one two table numbered all within =
    let here = one table numbered all within in
    let there = two table numbered all here.1 in
    (omega (arith, here.0, there.0), there.1, on-more version table.room _ _ _ e1 e2 e3 front more here.2 there.2)
