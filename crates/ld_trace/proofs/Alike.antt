-- A trace reads alike over its own names and over others.
use Rattle.ld_trace.proofs.Names.{[], ◌++◌, ◌+◌, ◌∙◌, ◌∷◌, ◌≡◌, ◌≤◌, Acquire, Bool, Err, Event, Line, List, MAX_EVENTS, Name, None, Ok, Option, ReadsTo, Record, Release, Result, Some, TooManyRecords, TraceFaultKind, TracesReadAlike, Version, Within, all_moved, and_parts, ap, append-nil, append_assoc, arith, enters, event_of, false, gives_back, if◌then◌else◌, is_known, is_same, leaves, length, line_at, line_fault, lines_at, list_all, list_any-append, map, names_before, nat_lt, nat_tests, or_left, or_parts, or_right, place_of, record_fault, records_of, refl, slice_get, suc, sym, takes, true, true≢false, turns_off, turns_on, version_fault, version_in, with_line, with_name, ℕ}
use Rattle.ld_trace.specs.Laws.{with_lines}
use Rattle.ld_trace.specs.Lines.{line_of_record, version_of}
use Rattle.ld_trace.specs.Reading.{fault_at}
use Rattle.ld_trace.specs.TakingIn.{with_all}
use Rattle.ld_trace.proofs.KnownLemmas.{is_same-itself, same-name}
use Rattle.ld_trace.proofs.LineLemmas.{Say, events_with, lines_at-events_with, taken-said, with_lines-added}
use Rattle.ld_trace.proofs.ReadLemmas.{reads-to, taken-header}
use Rattle.ld_trace.proofs.TakenLemmas.{with_name-added}

-- ---- known names stay known, and keep their places
pub known-longer : (names more : List Name) (name : Name) → is_known names name ≡ true → is_known (names ++ more) name ≡ true
known-longer names more name h = list_any-append (is_same name) names more ∙ or_left (is_known names name) (is_known more name) h

pub with_name-knows : (names : List Name) (name : Name) → is_known (with_name names name) name ≡ true
with_name-knows names name = by (is_known names name) refl
  where
    by : (b : Bool) → is_known names name ≡ b → is_known (if b then names else names ++ name ∷ []) name ≡ true
    by true e = e
    by false e = list_any-append (is_same name) names (name ∷ []) ∙ or_right (is_known names name) (is_known (name ∷ []) name) (or_left (is_same name name) false (is_same-itself name))

pub with_all-added : (names more : List Name) → (added : List Name) × (with_all names more ≡ names ++ added)
unfolding with_all
with_all-added names [] = ([], sym (append-nil names))
with_all-added names (name ∷ more) =
    let one = with_name-added names name in
    let rest = with_all-added (with_name names name) more in
    (one.0 ++ rest.0, rest.1 ∙ ap (λ l. l ++ rest.0) one.1 ∙ append_assoc names one.0 rest.0)

with_all-keeps : (names more : List Name) (name : Name) → is_known names name ≡ true → is_known (with_all names more) name ≡ true
with_all-keeps names more name h = let a = with_all-added names more in rw a.1 (known-longer names a.0 name h)

-- ---- the names with all of a list among them
with_all-knows : (names more : List Name) (name : Name) → is_known more name ≡ true → is_known (with_all names more) name ≡ true
unfolding with_all
with_all-knows names [] name h = absurd (true≢false (sym h))
with_all-knows names (x ∷ xs) name h = by (is_same name x) refl (with_all-knows (with_name names x) xs name)
  where
    by : (b : Bool) → is_same name x ≡ b → (is_known xs name ≡ true → is_known (with_all (with_name names x) xs) name ≡ true) → is_known (with_all (with_name names x) xs) name ≡ true
    by true e rest = with_all-keeps (with_name names x) xs name (rw (same-name name x e) (with_name-knows names x))
    by false e rest = rest (rw e at h)

pub with_all-append : (names a b : List Name) → with_all names (a ++ b) ≡ with_all (with_all names a) b
unfolding with_all
with_all-append names [] b = refl
with_all-append names (x ∷ a) b = with_all-append (with_name names x) a b

pub with_all-within : (names few : List Name) → Within few names → with_all names few ≡ names
unfolding with_all
with_all-within names [] h = refl
with_all-within names (x ∷ xs) h =
    let parts = and_parts (is_known names x) (list_all (is_known names) xs) h in
    rw parts.0 (with_all-within names xs parts.1)

with_all-name : (names own : List Name) (name : Name) → with_name (with_all names own) name ≡ with_all names (with_name own name)
unfolding with_all
with_all-name names own name = by (is_known own name) refl
  where
    by : (b : Bool) → is_known own name ≡ b → with_name (with_all names own) name ≡ with_all names (if b then own else own ++ name ∷ [])
    by true e = rw (with_all-knows names own name e) refl
    by false e = sym (with_all-append names own (name ∷ []))

with_all-line : (names own : List Name) (line : Line) → with_line (with_all names own) line ≡ with_all names (with_line own line)
with_all-line names own (takes name mode) = with_all-name names own name
with_all-line names own (gives_back name) = with_all-name names own name
with_all-line names own (enters irq) = refl
with_all-line names own leaves = refl
with_all-line names own (turns_on irq) = refl
with_all-line names own (turns_off irq) = refl

with_all-lines : (names own : List Name) (lines : List Line) → with_lines (with_all names own) lines ≡ with_all names (with_lines own lines)
unfolding with_lines
with_all-lines names own [] = refl
with_all-lines names own (line ∷ lines) =
    ap (λ now. with_lines now lines) (with_all-line names own line) ∙ with_all-lines names (with_line own line) lines

-- ---- an event's key keeps its number when names are added
pub place_of-longer : (names more : List Name) (name : Name) → is_known names name ≡ true → place_of (names ++ more) name ≡ place_of names name
place_of-longer [] more name h = absurd (true≢false (sym h))
place_of-longer (x ∷ xs) more name h = by (is_same name x) refl (place_of-longer xs more name)
  where
    by : (b : Bool) → is_same name x ≡ b → (is_known xs name ≡ true → place_of (xs ++ more) name ≡ place_of xs name) → place_of (x ∷ xs ++ more) name ≡ place_of (x ∷ xs) name
    by true e rest = rw e refl
    by false e rest = rw (e, rest (rw e at h)) refl

place_of-new : (names : List Name) (name : Name) → is_known names name ≡ false → place_of (names ++ name ∷ []) name ≡ place_of names name
place_of-new [] name h = rw (is_same-itself name) refl
place_of-new (x ∷ xs) name h = let parts = or_parts (is_same name x) (is_known xs name) h in rw (parts.0, place_of-new xs name parts.1) refl

pub place_of-with_name : (names : List Name) (name : Name) → place_of (with_name names name) name ≡ place_of names name
place_of-with_name names name = by (is_known names name) refl
  where
    by : (b : Bool) → is_known names name ≡ b → place_of (if b then names else names ++ name ∷ []) name ≡ place_of names name
    by true e = refl
    by false e = place_of-new names name e

place_of-later : (names more : List Name) (name : Name) → place_of (with_name names name ++ more) name ≡ place_of names name
place_of-later names more name = place_of-longer (with_name names name) more name (with_name-knows names name) ∙ place_of-with_name names name

event_of-later : (now more : List Name) (line : Line) → event_of (with_line now line ++ more) line ≡ event_of now line
event_of-later now more (takes name mode) = ap (Acquire mode) (place_of-later now more name)
event_of-later now more (gives_back name) = ap Release (place_of-later now more name)
event_of-later now more (enters irq) = refl
event_of-later now more leaves = refl
event_of-later now more (turns_on irq) = refl
event_of-later now more (turns_off irq) = refl

events_with-later : (now : List Name) (lines : List Line) → map (event_of (with_lines now lines)) lines ≡ events_with now lines
unfolding with_lines
events_with-later now [] = refl
events_with-later now (line ∷ lines) =
    let rest = with_lines-added (with_line now line) lines in
    let first : event_of (with_lines (with_line now line) lines) line ≡ event_of now line = rw rest.1 (event_of-later now rest.0 line) in
    rw (first, events_with-later (with_line now line) lines) refl

-- ---- the lines of a trace that was read
module _ (any : ℕ) (version : Version) where
  line-said : (names : List Name) (what : Result Line TraceFaultKind) → line_fault any names what ≡ None → (line : Line) × (what ≡ Ok line)
  line-said names (Ok line) h = (line, refl)
  line-said names (Err fault) h = absurd (cc)

  -- records without fault say lines
  says-from : (n : ℕ) (rs : List Record) (names : ℕ → List Name) → ((i : ℕ) → record_fault any version (names i) (suc (n + i)) (slice_get rs i) ≡ None) → n ≤ MAX_EVENTS
      → (lines : List Line) × Say version rs lines × (n + length lines ≤ MAX_EVENTS)
  says-from n [] names none few = ([], tt, omega (arith, few))
  says-from n (r ∷ rs) names none few = by (nat_lt MAX_EVENTS (suc (n + 0))) refl (none 0) (says-from (suc n) rs (λ i. names (suc i)) next)
    where
      next : (i : ℕ) → record_fault any version (names (suc i)) (suc (suc n + i)) (slice_get rs i) ≡ None
      next i = let e : n + suc i ≡ suc n + i = omega arith in rw e at (none (suc i))

      by : (b : Bool) → nat_lt MAX_EVENTS (suc (n + 0)) ≡ b → (if b then Some TooManyRecords else line_fault any (names 0) (line_of_record version r)) ≡ None
          → (suc n ≤ MAX_EVENTS → (lines : List Line) × Say version rs lines × (suc n + length lines ≤ MAX_EVENTS))
          → (lines : List Line) × Say version (r ∷ rs) lines × (n + length lines ≤ MAX_EVENTS)
      by true e h more = absurd (cc)
      by false e h more =
          let one = line-said (names 0) (line_of_record version r) h in
          let rest = more (grind (arith, nat_tests)) in
          (one.0 ∷ rest.0, (one.1, rest.1), omega (arith, rest.2))

-- the first record names a version
header-named : (found : Option Version) → version_fault found ≡ None → (version : Version) × (found ≡ Some version)
header-named (Some version) h = (version, refl)
header-named None h = absurd (cc)

version-named : (h : Record) (rs : List Record) (version : Version) → version_of h ≡ Some version → version_in (h ∷ rs) ≡ version
version-named h rs version named = rw named refl

same-places : (xs ys : List Event) → ((i : ℕ) → slice_get xs i ≡ slice_get ys i) → xs ≡ ys
same-places [] [] h = refl
same-places [] (y ∷ ys) h = let e = h 0 in absurd (cc)
same-places (x ∷ xs) [] h = let e = h 0 in absurd (cc)
same-places (x ∷ xs) (y ∷ ys) h =
    let e = h 0 in
    let first : x ≡ y = cc in
    rw (first, same-places xs ys (λ i. h (suc i))) refl

all_moved-lines : (own names : List Name) (events : List Event) → all_moved own names events ≡ map (event_of names) (lines_at own events)
all_moved-lines own names [] = refl
all_moved-lines own names (event ∷ events) = ap (λ l. event_of names (line_at own event) ∷ l) (all_moved-lines own names events)

-- ---- what a trace that was read says: a header, and then lines
pub record IsSaid (start : List Name) (bytes : List ℕ) (own : List Name) (events : List Event) : Type 0 where
  pub version : Version
  pub header : Record
  pub rows : List Record
  pub lines : List Line
  pub records_are : records_of bytes ≡ header ∷ rows
  pub named : version_of header ≡ Some version
  pub say : Say version rows lines
  pub few : 0 + length lines ≤ MAX_EVENTS
  pub names_are : own ≡ with_lines start lines
  pub events_are : events ≡ events_with start lines

module _ (any : ℕ) (start own : List Name) (bytes : List ℕ) (events : List Event) (reads : ReadsTo any start bytes own events) where
  said-lines : (version : Version) (h : Record) (rs : List Record) → records_of bytes ≡ h ∷ rs → version_of h ≡ Some version → (lines : List Line) → Say version rs lines → 0 + length lines ≤ MAX_EVENTS
      → IsSaid start bytes own events
  said-lines version h rs e named lines say few =
      let is-version : version_in (records_of bytes) ≡ version = rw (e, named) refl in
      let own-taken =
      taken-said (length (with_lines start lines)) version start (h ∷ []) start [] rs lines (taken-header (length (with_lines start lines)) version start h named) say few (omega arith) in
      record {
        version = version;
        header = h;
        rows = rs;
        lines = lines;
        records_are = e;
        named = named;
        say = say;
        few = few;
        names_are = reads.names ∙ rw (is-version, e, own-taken.names) refl;
        events_are = same-places events (events_with start lines) (λ i. reads.each i ∙ rw (is-version, e, own-taken.each i) refl);
      }

  said-rows : (rows : List Record) → records_of bytes ≡ rows → IsSaid start bytes own events
  unfolding fault_at
  said-rows [] e = let count = reads.count in absurd (omega (arith, ap length e, count))
  said-rows (h ∷ rs) e =
      let none = header-named (version_of h) (rw e at (reads.faultless 0)) in
      let version-is = ap version_in e ∙ version-named h rs none.0 none.1 in
      let said = says-from any none.0 0 rs (λ i. names_before none.0 start (h ∷ rs) (suc i)) (λ i.
      let z : 0 + i ≡ i = omega arith in
      rw z (rw (version-is, e) at (reads.faultless (suc i)))) (omega arith) in
      said-lines none.0 h rs e none.1 said.0 said.1 said.2

pub reads-said : (any : ℕ) (start own : List Name) (bytes : List ℕ) (events : List Event) → ReadsTo any start bytes own events → IsSaid start bytes own events
reads-said any start own bytes events reads = said-rows any start own bytes events reads (records_of bytes) refl

-- ---- the law
module _ (room : ℕ) (start own names : List Name) (bytes : List ℕ) (events : List Event) (within : Within start names) (said : IsSaid start bytes own events) (fits : length (with_all names own) ≤ room) where
  names-are : with_lines names said.lines ≡ with_all names own
  names-are =
      ap (λ now. with_lines now said.lines) (sym (with_all-within names start within))
      ∙ with_all-lines names start said.lines ∙ ap (with_all names) (sym said.names_are)

  moved-are : events_with names said.lines ≡ all_moved own (with_all names own) events
  moved-are =
      let told : lines_at own events ≡ said.lines = rw (said.names_are, said.events_are) (lines_at-events_with start said.lines) in
      sym (all_moved-lines own (with_all names own) events ∙ rw (told, ← names-are) (events_with-later names said.lines))

  reads-over : ReadsTo room names bytes (with_lines names said.lines) (events_with names said.lines)
  reads-over =
      reads-to room said.version names bytes (said.header ∷ said.rows) (with_lines names said.lines) (events_with names said.lines) said.records_are
      (taken-said room said.version names (said.header ∷ []) names [] said.rows said.lines (taken-header room said.version names said.header said.named) said.say said.few (rw names-are fits))

  alike-said : ReadsTo room names bytes (with_all names own) (all_moved own (with_all names own) events)
  alike-said = rw (names-are, moved-are) at reads-over

pub traces-read-alike : TracesReadAlike
traces-read-alike any room start own names bytes events within reads fits = alike-said room start own names bytes events within (reads-said any start own bytes events reads) fits
