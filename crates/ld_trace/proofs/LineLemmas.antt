-- Lines over a table: the names after them, their events, and what these say.
use Rattle.ld_trace.proofs.Names.{[], ◌&&◌, ◌++◌, ◌+◌, ◌∙◌, ◌∷◌, ◌≡◌, ◌≤◌, AreTaken, Bool, Event, KeyIsBelow, KeysBelow, Line, List, MAX_EVENTS, Name, Ok, Record, Some, TakesLine, Version, ap, append-nil, append_assoc, arith, enters, event_of, false, gives_back, if◌then◌else◌, is_known, is_one_too_many, is_over, is_same, leaves, length, length-append, line_at, lines_at, name_at, nat_le, nat_tests, not, or_parts, place_of, refl, slice_get, suc, sym, takes, true, true≢false, turns_off, turns_on, unwrap_or, with_line, with_name, ℕ, ⊤}
use Rattle.ld_trace.specs.Laws.{with_lines}
use Rattle.ld_trace.specs.Lines.{line_of_record}
use Rattle.ld_trace.proofs.KnownLemmas.{same-name}
use Rattle.ld_trace.proofs.TakenLemmas.{place-below, slice_get-front, taken-more, with_line-added}

pub head-below : (n : ℕ) (event : Event) (events : List Event) → KeysBelow n (event ∷ events) → KeyIsBelow n event
head-below n event events below = below 0 event (omega arith)

pub tail-below : (n : ℕ) (event : Event) (events : List Event) → KeysBelow n (event ∷ events) → KeysBelow n events
tail-below n event events below = λ k d lt. below (suc k) d (omega (arith, lt))

-- ---- the events of lines
-- the events that lines stand for over some names
abbrev pub events_with : List Name → List Line → List Event
events_with now [] = []
events_with now (line ∷ lines) = event_of now line ∷ events_with (with_line now line) lines

pub length-events_with : (now : List Name) (lines : List Line) → length (events_with now lines) ≡ length lines
length-events_with now [] = refl
length-events_with now (line ∷ lines) = let rest = length-events_with (with_line now line) lines in omega (arith, rest)

pub with_lines-added : (now : List Name) (lines : List Line) → (more : List Name) × (with_lines now lines ≡ now ++ more)
unfolding with_lines
with_lines-added now [] = ([], sym (append-nil now))
with_lines-added now (line ∷ lines) =
    let one = with_line-added now line in
    let rest = with_lines-added (with_line now line) lines in
    (one.0 ++ rest.0, rest.1 ∙ ap (λ l. l ++ rest.0) one.1 ∙ append_assoc now one.0 rest.0)

pub length-with_lines : (now : List Name) (lines : List Line) → length now ≤ length (with_lines now lines)
length-with_lines now lines = let a = with_lines-added now lines in omega (arith, ap length a.1, length-append now a.0)

-- a name for which there is room is not one too many
name-fits : (room : ℕ) (now : List Name) (name : Name) → length (with_name now name) ≤ room → is_one_too_many room now name ≡ false
name-fits room now name fits = by (is_known now name) fits
  where
    by : (b : Bool) → length (if b then now else now ++ name ∷ []) ≤ room → (not b && nat_le room (length now)) ≡ false
    by true h = refl
    by false h = let long = length-append now (name ∷ []) in grind (arith, nat_tests)

line-fits : (room : ℕ) (now : List Name) (line : Line) → length (with_line now line) ≤ room → is_over room now line ≡ false
line-fits room now (takes name mode) fits = name-fits room now name fits
line-fits room now (gives_back name) fits = name-fits room now name fits
line-fits room now (enters irq) fits = refl
line-fits room now leaves fits = refl
line-fits room now (turns_on irq) fits = refl
line-fits room now (turns_off irq) fits = refl

-- ---- records that say lines
abbrev pub Say : Version → List Record → List Line → Type 0
Say version [] [] = ⊤
Say version (r ∷ rs) (line ∷ lines) = (line_of_record version r ≡ Ok line) × Say version rs lines
Say version [] (line ∷ lines) = ⊥
Say version (r ∷ rs) [] = ⊥

-- all lines were taken
pub taken-said : (room : ℕ) (version : Version) (old : List Name) (rows : List Record) (now : List Name) (before : List Event) (rs : List Record) (lines : List Line) → AreTaken room version old rows now before → Say version rs lines → length before + length lines ≤ MAX_EVENTS → length (with_lines now lines) ≤ room → AreTaken room version old (rows ++ rs) (with_lines now lines) (before ++ events_with now lines)
unfolding with_lines
taken-said room version old rows now before [] [] a say few fits = rw (append-nil rows, append-nil before) a
taken-said room version old rows now before (r ∷ rs) [] a say few fits = absurd say
taken-said room version old rows now before [] (line ∷ lines) a say few fits = absurd say
taken-said room version old rows now before (r ∷ rs) (line ∷ lines) a say few fits =
    let next = with_line now line in
    let event = event_of now line in
    let long = length-append before (event ∷ []) in
    let more = length-with_lines next lines in
    let taken : TakesLine room version now next before (before ++ event ∷ []) r = record {
      line = line;
      says = say.0;
      fits = line-fits room now line (omega (arith, more, fits));
      names = refl;
      events = refl;
    } in
    let step = taken-more room version old rows now next before (before ++ event ∷ []) r a taken (omega (arith, few)) in
    let rest = taken-said room version old (rows ++ r ∷ []) next (before ++ event ∷ []) rs lines step say.1 (omega (arith, few, long)) fits in
    rw (append_assoc rows (r ∷ []) rs, append_assoc before (event ∷ []) (events_with next lines)) at rest

-- ---- what the events say
-- a new name stands at the end
new-there : (names : List Name) (name : Name) → is_known names name ≡ false → slice_get (names ++ name ∷ []) (place_of names name) ≡ Some name
new-there [] name h = refl
new-there (x ∷ xs) name h =
    let parts = or_parts (is_same name x) (is_known xs name) h in
    let next : 1 + place_of xs name ≡ suc (place_of xs name) = omega arith in
    rw (parts.0, next) (new-there xs name parts.1)

pub found-there : (names : List Name) (name : Name) → is_known names name ≡ true → slice_get names (place_of names name) ≡ Some name
found-there [] name h = absurd (true≢false (sym h))
found-there (x ∷ xs) name h = by (is_same name x) refl (found-there xs name)
  where
    by : (b : Bool) → is_same name x ≡ b → (is_known xs name ≡ true → slice_get xs (place_of xs name) ≡ Some name) → slice_get (x ∷ xs) (place_of (x ∷ xs) name) ≡ Some name
    by true e rest = rw e (ap Some (sym (same-name name x e)))
    by false e rest = let next : 1 + place_of xs name ≡ suc (place_of xs name) = omega arith in rw (e, next) (rest (rw e at h))

-- a name stands at its place in the names with it
pub with_name-there : (names : List Name) (name : Name) → slice_get (with_name names name) (place_of names name) ≡ Some name
with_name-there names name = by (is_known names name) refl
  where
    by : (b : Bool) → is_known names name ≡ b → slice_get (if b then names else names ++ name ∷ []) (place_of names name) ≡ Some name
    by true e = found-there names name e
    by false e = new-there names name e

-- and so it does in longer ones
pub name_at-longer : (names more : List Name) (name : Name) → name_at (with_name names name ++ more) (place_of names name) ≡ name
name_at-longer names more name =
    ap (λ found. unwrap_or found ([], 0)) (slice_get-front (with_name names name) more (place_of names name) (place-below names name) ∙ with_name-there names name)

pub line_at-longer : (now more : List Name) (line : Line) → line_at (with_line now line ++ more) (event_of now line) ≡ line
line_at-longer now more (takes name mode) = ap (λ n. takes n mode) (name_at-longer now more name)
line_at-longer now more (gives_back name) = ap gives_back (name_at-longer now more name)
line_at-longer now more (enters irq) = refl
line_at-longer now more leaves = refl
line_at-longer now more (turns_on irq) = refl
line_at-longer now more (turns_off irq) = refl

pub lines_at-events_with : (now : List Name) (lines : List Line) → lines_at (with_lines now lines) (events_with now lines) ≡ lines
unfolding with_lines
lines_at-events_with now [] = refl
lines_at-events_with now (line ∷ lines) =
    let rest = with_lines-added (with_line now line) lines in
    let first : line_at (with_lines (with_line now line) lines) (event_of now line) ≡ line = rw rest.1 (line_at-longer now rest.0 line) in
    rw (first, lines_at-events_with (with_line now line) lines) refl
