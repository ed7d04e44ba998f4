-- What is written of a trace reads back.
use Rattle.ld_trace.proofs.Names.{[], ◌++◌, ◌+◌, ◌-◌, ◌<◌, ◌||◌, ◌∙◌, ◌∷◌, ◌≡◌, ◌≤◌, Acquire, AreOfTable, Bool, Enter, Event, KeyIsBelow, KeysBelow, Leave, Line, List, MAX_EVENTS, MAX_SUB, Mode, Name, NewTablesHaveRoom, None, Ok, One, ReadsTo, Release, Some, Table, TextsReadBack, TextsReadThemselves, TurnOff, TurnOn, Two, Version, and_parts, ap, arith, default_config, enters, event_of, event_text, false, flat_map, gives_back, header_of, if◌then◌else◌, is_class_name, is_known, is_name, is_same, is_try, leaves, length, length-map, line_at, lines_at, list_all, list_any, list_any-append, map, mode_of, mode_word, name_at, nat_le, nat_tests, not, or_parts, read_back, record_of, record_text, records_of, refl, slice_get, sub_of, sub_word, subst, suc, sym, takes, true, true≢false, turns_off, turns_on, version_for, with_line, with_name, zero, ℕ, ⊤}
use Rattle.std.specs.List.{IsDistinct}
use Rattle.std.proofs.lemmas.Map.Keys.{IsDistinct-push}
use Rattle.std.proofs.lemmas.Map.Made.{length-le_from_is_member}
use Rattle.csv.specs.Machine.{next_record}
use Rattle.csv.specs.Reading.{Reached, strip_bom}
use Rattle.csv.specs.Writing.{escaped, fields_text, is_blank}
use Rattle.csv.specs.declared.parser.State.TheVariants as st
use Rattle.csv.proofs.RoundTrip.{read-write}
use Rattle.ld_trace.specs.declared.event.Irq.TheVariants.{Hard, Soft}
use Rattle.ld_trace.specs.declared.event.Mode.TheVariants.{Write, Read, RecRead, TryWrite, TryRead, TryRecRead}
use Rattle.ld_trace.specs.Laws.{with_lines}
use Rattle.ld_trace.specs.Lines.{line_of_record, version_of}
use Rattle.ld_trace.specs.Modes.{may_wait}
use Rattle.ld_trace.specs.Writing.{trace_text}
use Rattle.ld_trace.proofs.CsvLemmas.{records-all}
use Rattle.ld_trace.proofs.KnownLemmas.{is_same-laws, named-there, place_of-there, same-name}
use Rattle.ld_trace.proofs.ReadLemmas.{reads-to, taken-header}
use Rattle.ld_trace.proofs.LineLemmas.{Say, events_with, head-below, lines_at-events_with, tail-below, taken-said}

-- ---- a record says what it was written for
-- the line's name is one, and its mode is one of the version's
abbrev pub IsGood : Version → Line → Type 0
IsGood version (takes name mode) = (is_name name ≡ true) × (mode_of version (mode_word mode) ≡ Some mode)
IsGood version (gives_back name) = is_name name ≡ true
IsGood version (enters irq) = ⊤
IsGood version leaves = ⊤
IsGood version (turns_on irq) = ⊤
IsGood version (turns_off irq) = ⊤

sub_of-word : (sub : ℕ) → nat_le sub MAX_SUB ≡ true → sub_of (sub_word sub) ≡ Some sub
sub_of-word sub small =
    let low : nat_le 48 (48 + sub) ≡ true = grind (arith, nat_tests) in
    let high : nat_le (48 + sub) 55 ≡ true = grind (arith, nat_tests) in
    let back : (48 + sub) - 48 ≡ sub = omega arith in
    rw (low, high, back) refl

pub line_of_record-of : (version : Version) (line : Line) → IsGood version line → line_of_record version (record_of line) ≡ Ok line
unfolding line_of_record
line_of_record-of version (takes name mode) good =
    let parts = and_parts (is_class_name name.0) (nat_le name.1 MAX_SUB) good.0 in
    rw (sub_of-word name.1 parts.1, parts.0, good.1) refl
line_of_record-of version (gives_back name) good =
    let parts = and_parts (is_class_name name.0) (nat_le name.1 MAX_SUB) good in
    rw (sub_of-word name.1 parts.1, parts.0) refl
line_of_record-of version (enters Hard) good = refl
line_of_record-of version (enters Soft) good = refl
line_of_record-of version leaves good = refl
line_of_record-of version (turns_on Hard) good = refl
line_of_record-of version (turns_on Soft) good = refl
line_of_record-of version (turns_off Hard) good = refl
line_of_record-of version (turns_off Soft) good = refl

-- ---- the lines of a trace are good
abbrev AreGood : Version → List Line → Type 0
AreGood version [] = ⊤
AreGood version (line ∷ lines) = IsGood version line × AreGood version lines

pub name_at-there : (names : List Name) (key : ℕ) → key < length names → slice_get names key ≡ Some (name_at names key)
name_at-there [] key h = absurd (omega arith)
name_at-there (x ∷ xs) zero h = refl
name_at-there (x ∷ xs) (suc key) h = name_at-there xs key (omega arith)

-- the version has the event's mode
abbrev pub Has : Version → Event → Type 0
Has One event = is_try event ≡ false
Has Two event = ⊤

waits : (mode : Mode) → not (may_wait mode) ≡ false → mode_of One (mode_word mode) ≡ Some mode
waits Write h = refl
waits Read h = refl
waits RecRead h = refl
waits TryWrite h = absurd (true≢false h)
waits TryRead h = absurd (true≢false h)
waits TryRecRead h = absurd (true≢false h)

any_mode : (mode : Mode) → mode_of Two (mode_word mode) ≡ Some mode
any_mode Write = refl
any_mode Read = refl
any_mode RecRead = refl
any_mode TryWrite = refl
any_mode TryRead = refl
any_mode TryRecRead = refl

mode-good : (version : Version) (mode : Mode) (key : ℕ) → Has version (Acquire mode key) → mode_of version (mode_word mode) ≡ Some mode
mode-good One mode key h = waits mode h
mode-good Two mode key h = any_mode mode

name-good : (names : List Name) (key : ℕ) → list_all is_name names ≡ true → key < length names → is_name (name_at names key) ≡ true
name-good names key named below = named-there names (name_at names key) key named (name_at-there names key below)

pub line-good : (version : Version) (names : List Name) (event : Event) → list_all is_name names ≡ true → KeyIsBelow (length names) event → Has version event → IsGood version (line_at names event)
line-good version names (Acquire mode key) named below has = (name-good names key named below, mode-good version mode key has)
line-good version names (Release key) named below has = name-good names key named below
line-good version names (Enter irq) named below has = tt
line-good version names Leave named below has = tt
line-good version names (TurnOn irq) named below has = tt
line-good version names (TurnOff irq) named below has = tt

-- the version has all of these events
abbrev AllHave : Version → List Event → Type 0
AllHave version [] = ⊤
AllHave version (event ∷ events) = Has version event × AllHave version events

all-have-one : (events : List Event) → list_any is_try events ≡ false → AllHave One events
all-have-one [] h = tt
all-have-one (event ∷ events) h = let parts = or_parts (is_try event) (list_any is_try events) h in (parts.0, all-have-one events parts.1)

all-have-two : (events : List Event) → AllHave Two events
all-have-two [] = tt
all-have-two (event ∷ events) = (tt, all-have-two events)

all-have : (events : List Event) → AllHave (version_for events) events
all-have events = by (list_any is_try events) refl
  where
    by : (b : Bool) → list_any is_try events ≡ b → AllHave (if b then Two else One) events
    by true e = all-have-two events
    by false e = all-have-one events e

lines-good : (version : Version) (names : List Name) (events : List Event) → list_all is_name names ≡ true → KeysBelow (length names) events → AllHave version events → AreGood version (lines_at names events)
lines-good version names [] named below have = tt
lines-good version names (event ∷ events) named below have = (
  line-good version names event named (head-below (length names) event events below) have.0,
  lines-good version names events named (tail-below (length names) event events below) have.1,
)

-- ---- the records of the text
pub read_back-record : (line : Line) → read_back (record_of line) ≡ record_of line
read_back-record (takes name mode) = refl
read_back-record (gives_back name) = refl
read_back-record (enters irq) = refl
read_back-record leaves = refl
read_back-record (turns_on irq) = refl
read_back-record (turns_off irq) = refl

events-reached : (names : List Name) (events : List Event) → Reached default_config st.StartRecord (flat_map (event_text names) events) (map record_of (lines_at names events)) st.StartRecord []
unfolding Reached
events-reached names [] = (refl, refl)
events-reached names (event ∷ events) =
    let row = record_of (line_at names event) in
    ((read_back row, st.StartRecord, flat_map (event_text names) events), read-write row (flat_map (event_text names) events), sym (read_back-record (line_at names event)), events-reached names events)

pub read_back-header : (version : Version) → read_back (header_of version) ≡ header_of version
read_back-header One = refl
read_back-header Two = refl

trace-reached : (names : List Name) (events : List Event) → Reached default_config st.StartRecord (trace_text names events) (header_of (version_for events) ∷ map record_of (lines_at names events)) st.StartRecord []
unfolding Reached trace_text
trace-reached names events =
    let row = header_of (version_for events) in
    let rest = flat_map (event_text names) events in
    ((read_back row, st.StartRecord, rest), read-write row rest, sym (read_back-header (version_for events)), events-reached names events)

pub no-mark : (version : Version) (rest : List ℕ) → strip_bom (record_text (header_of version) ++ rest) ≡ record_text (header_of version) ++ rest
unfolding strip_bom fields_text is_blank escaped
no-mark One rest = refl
no-mark Two rest = refl

no-mark-text : (names : List Name) (events : List Event) → strip_bom (trace_text names events) ≡ trace_text names events
unfolding trace_text
no-mark-text names events = no-mark (version_for events) (flat_map (event_text names) events)

pub ended : next_record default_config st.StartRecord [] [] [] ≡ None
unfolding next_record
ended = refl

pub records-text : (names : List Name) (events : List Event) → records_of (trace_text names events) ≡ header_of (version_for events) ∷ map record_of (lines_at names events)
records-text names events =
    let rows = header_of (version_for events) ∷ map record_of (lines_at names events) in
    records-all (trace_text names events) st.StartRecord [] rows
    (subst (λ text. Reached default_config st.StartRecord text rows st.StartRecord []) (sym (no-mark-text names events)) (trace-reached names events)) ended

-- good lines are what their records say
say-good : (version : Version) (lines : List Line) → AreGood version lines → Say version (map record_of lines) lines
say-good version [] good = tt
say-good version (line ∷ lines) good = (line_of_record-of version line good.0, say-good version lines good.1)

-- ---- the laws
module _ (table : Table) (events : List Event) (are : AreOfTable table events) where
  version_of-header : (v : Version) → version_of (header_of v) ≡ Some v
  unfolding version_of
  version_of-header One = refl
  version_of-header Two = refl

  reads-back : (room : ℕ) (old : List Name) → length (with_lines old (lines_at table.names events)) ≤ room → ReadsTo room old (trace_text table.names events) (with_lines old (lines_at table.names events)) (events_with old (lines_at table.names events))
  reads-back room old fits =
      let header = taken-header room (version_for events) old (header_of (version_for events)) (version_of-header (version_for events)) in
      let good = lines-good (version_for events) table.names events are.numbered.named are.below (all-have events) in
      let long : length (lines_at table.names events) ≡ length events = length-map events (line_at table.names) in
      let few : 0 + length (lines_at table.names events) ≤ MAX_EVENTS = omega (arith, are.few, long) in
      let taken = taken-said room (version_for events) old (header_of (version_for events) ∷ []) old [] (map record_of (lines_at table.names events)) (lines_at table.names events) header (say-good (version_for events) (lines_at table.names events) good) few fits in
      reads-to room (version_for events) old (trace_text table.names events) (header_of (version_for events) ∷ map record_of (lines_at table.names events)) (with_lines old (lines_at table.names events)) (events_with old (lines_at table.names events))
      (records-text table.names events) taken

pub texts-read-back : TextsReadBack
texts-read-back table events are room old fits = (
  with_lines old (lines_at table.names events),
  events_with old (lines_at table.names events),
  record {
    reads = reads-back table events are room old fits;
    names_are = refl;
    same = lines_at-events_with old (lines_at table.names events);
  },
)

-- over the table of the names themselves
pub line-known : (names : List Name) (event : Event) → IsDistinct is_same names → KeyIsBelow (length names) event → (with_line names (line_at names event) ≡ names) × (event_of names (line_at names event) ≡ event)
line-known names (Acquire mode key) once below =
    let there = place_of-there names (name_at names key) key once (name_at-there names key below) in
    (rw there.1 refl, ap (Acquire mode) there.0)
line-known names (Release key) once below =
    let there = place_of-there names (name_at names key) key once (name_at-there names key below) in
    (rw there.1 refl, ap Release there.0)
line-known names (Enter irq) once below = (refl, refl)
line-known names Leave once below = (refl, refl)
line-known names (TurnOn irq) once below = (refl, refl)
line-known names (TurnOff irq) once below = (refl, refl)

lines-known : (names : List Name) (events : List Event) → IsDistinct is_same names → KeysBelow (length names) events → (with_lines names (lines_at names events) ≡ names) × (events_with names (lines_at names events) ≡ events)
unfolding with_lines
lines-known names [] once below = (refl, refl)
lines-known names (event ∷ events) once below =
    let one = line-known names event once (head-below (length names) event events below) in
    let rest = lines-known names events once (tail-below (length names) event events below) in
    let names_are = ap (λ n. with_lines n (lines_at names events)) one.0 ∙ rest.0 in
    let events_are = ap (λ n. events_with n (lines_at names events)) one.0 ∙ rest.1 in
    (names_are, λ i. one.1 i ∷ events_are i)

pub texts-read-themselves : TextsReadThemselves
texts-read-themselves table events are =
    let known = lines-known table.names events are.numbered.once are.below in
    let fits : length (with_lines table.names (lines_at table.names events)) ≤ table.room = rw known.0 are.numbered.few in
    rw (known.0, known.1) at (reads-back table events are table.room table.names fits)

-- ---- a new table has room
-- names of the table, none twice
record AreAmong (names now : List Name) : Type 0 where
  once : IsDistinct is_same now
  known : (q : Name) → is_known now q ≡ true → is_known names q ≡ true

with_name-among : (names now : List Name) (name : Name) → is_known names name ≡ true → AreAmong names now → AreAmong names (with_name now name)
with_name-among names now name known among = by (is_known now name) refl
  where
    or-cases : (a b : Bool) (P : Type 0) → (a ≡ true → P) → (b ≡ true → P) → (a || b) ≡ true → P
    or-cases true b P one other h = one refl
    or-cases false b P one other h = other h

    by : (b : Bool) → is_known now name ≡ b → AreAmong names (if b then now else now ++ name ∷ [])
    by true e = among
    by false e = record {
      once = IsDistinct-push is_same-laws now name among.once e;
      known = λ q h.
          or-cases (is_known now q) (is_known (name ∷ []) q) (is_known names q ≡ true) (among.known q)
          (λ one. or-cases (is_same q name) false (is_known names q ≡ true)
          (λ same. ap (is_known names) (same-name q name same) ∙ known) (λ no. absurd (true≢false (sym no))) one)
          (sym (list_any-append (is_same q) now (name ∷ [])) ∙ h);
    }

line-among : (names now : List Name) (event : Event) → IsDistinct is_same names → KeyIsBelow (length names) event → AreAmong names now → AreAmong names (with_line now (line_at names event))
line-among names now (Acquire mode key) once below among = with_name-among names now (name_at names key) (place_of-there names (name_at names key) key once (name_at-there names key below)).1 among
line-among names now (Release key) once below among = with_name-among names now (name_at names key) (place_of-there names (name_at names key) key once (name_at-there names key below)).1 among
line-among names now (Enter irq) once below among = among
line-among names now Leave once below among = among
line-among names now (TurnOn irq) once below among = among
line-among names now (TurnOff irq) once below among = among

lines-among : (names now : List Name) (events : List Event) → IsDistinct is_same names → KeysBelow (length names) events → AreAmong names now → AreAmong names (with_lines now (lines_at names events))
unfolding with_lines
lines-among names now [] once below among = among
lines-among names now (event ∷ events) once below among =
    lines-among names (with_line now (line_at names event)) events once (tail-below (length names) event events below)
    (line-among names now event once (head-below (length names) event events below) among)

none-among : (names : List Name) → AreAmong names []
unfolding IsDistinct
none-among names = record { once = tt; known = λ q h. absurd (true≢false (sym h)) }

pub new-tables-have-room : NewTablesHaveRoom
new-tables-have-room table events are =
    let among = lines-among table.names [] events are.numbered.once are.below (none-among table.names) in
    let short = length-le_from_is_member is_same-laws (with_lines [] (lines_at table.names events)) table.names among.once among.known in
    omega (arith, short, are.numbered.few)
