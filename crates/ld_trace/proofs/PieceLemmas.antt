-- A trace of whole lines, and what is read after it.
use Rattle.ld_trace.proofs.Names.{[], ◌++◌, ◌+◌, ◌∙◌, ◌∷◌, ◌≡◌, ◌≤◌, AreLines, AreTaken, Event, HasTaken, HeadersRead, IfSome, IsFresh, KeysBelow, List, MAX_EVENTS, Name, None, One, Option, PiecesJoin, Reader, ReadsTo, Some, Two, Version, ap, append-nil, append_assoc, arith, codes, header_line, header_of, length, list_all, option_map, records_of, refl, sym, true, version_of_trace, ℕ, and_from}
use Rattle.csv.specs.Machine.{next_record}
use Rattle.std.specs.Fmt.{option_append}
use Rattle.csv.specs.Reading.{records_from, strip_bom}
use Rattle.ld_trace.specs.Laws.{with_lines}
use Rattle.ld_trace.specs.Lines.{version_of}
use Rattle.ld_trace.proofs.Alike.{IsSaid, reads-said}
use Rattle.ld_trace.proofs.CsvLemmas.{given-on}
use Rattle.ld_trace.proofs.CutLemmas.{cut-rows, mark-first}
use Rattle.ld_trace.proofs.LineLemmas.{Say, events_with, length-events_with, taken-said}
use Rattle.ld_trace.proofs.PlainLemmas as Plain
use Rattle.ld_trace.proofs.PlainLemmas.{said-lines}
use Rattle.ld_trace.proofs.ReadLemmas.{reads-to, taken-header}
use Rattle.ld_trace.proofs.RowLemmas.{is_one_line, records-rows, rows_from, rows_of}

-- ---- a text that is cut after a newline
-- a newline at the start of a record is skipped
after-newline : (rest : List ℕ) → records_of (10 ∷ rest) ≡ rows_of rest
unfolding rows_from strip_bom
after-newline rest = records-rows (strip_bom (10 ∷ rest)) ∙ ap rows_of (mark-first [] rest)

-- the records up to the newline are those of the piece that ends with it
cut-line : (front rest : List ℕ) → list_all is_one_line (rows_of (front ++ 10 ∷ [])) ≡ true → rows_of (front ++ 10 ∷ rest) ≡ rows_of (front ++ 10 ∷ []) ++ rows_of rest
unfolding rows_from
cut-line front rest lines =
    let own : rows_of (front ++ 10 ∷ []) ≡ rows_of front = cut-rows front [] [] lines ∙ append-nil (rows_of front) in
    rw own (cut-rows front [] rest lines)

cut-front : (front rest : List ℕ) → list_all is_one_line (records_of (front ++ 10 ∷ [])) ≡ true
    → records_of (front ++ 10 ∷ rest) ≡ records_of (front ++ 10 ∷ []) ++ records_of (10 ∷ rest)
cut-front front rest lines =
    let rows = λ (next : List ℕ). records-rows (strip_bom (front ++ 10 ∷ next)) ∙ ap rows_of (mark-first front next) in
    rw (rows rest, rows [], after-newline rest) (cut-line (strip_bom front) rest (rw (rows []) at lines))

cut : (version : Version) (done rest : List ℕ) → AreLines version done → list_all is_one_line (records_of done) ≡ true
    → records_of (done ++ rest) ≡ records_of done ++ records_of (10 ∷ rest)
cut version done rest are lines =
    let joins : done ++ rest ≡ are.most ++ 10 ∷ rest = ap (λ bytes. bytes ++ rest) are.end ∙ append_assoc are.most (10 ∷ []) rest in
    rw (joins, are.end) (cut-front are.most rest (rw are.end at lines))

-- ---- the header's line
header-records : (version : Version) → records_of (header_line version) ≡ header_of version ∷ []
unfolding next_record records_from strip_bom
header-records One = refl
header-records Two = refl

header-one-line : (version : Version) → list_all is_one_line (header_of version ∷ []) ≡ true
header-one-line One = refl
header-one-line Two = refl

header-lines : (version : Version) → AreLines version (header_line version)
header-lines One = record { more = []; begin = refl; most = codes "lockdep,1"; end = refl }
header-lines Two = record { more = []; begin = refl; most = codes "lockdep,2"; end = refl }

header-names : (version : Version) → version_of (header_of version) ≡ Some version
unfolding version_of
header-names One = refl
header-names Two = refl

-- what is read behind the header's line
pub records-behind : (version : Version) (piece : List ℕ) → records_of (header_line version ++ piece) ≡ header_of version ∷ records_of (10 ∷ piece)
records-behind version piece =
    cut version (header_line version) piece (header-lines version) (rw header-records (header-one-line version))
    ∙ ap (λ first. first ++ records_of (10 ∷ piece)) (header-records version)

-- ---- the records of a trace that was read
module _ (room : ℕ) (old names : List Name) (bytes : List ℕ) (events : List Event) (reads : ReadsTo room old bytes names events) (said : IsSaid old bytes names events) where
  pub read-version : version_of_trace bytes ≡ said.version
  read-version = rw (said.records_are, said.named) refl

  own-taken : AreTaken (length (with_lines old said.lines)) said.version old (said.header ∷ said.rows) (with_lines old said.lines) (events_with old said.lines)
  own-taken =
      taken-said (length (with_lines old said.lines)) said.version old (said.header ∷ []) old [] said.rows said.lines (taken-header (length (with_lines old said.lines)) said.version old said.header said.named) said.say said.few (omega arith)

  pub read-taken : AreTaken room said.version old (records_of bytes) names events
  read-taken = record {
    version_is = read-version;
    count = reads.count;
    faultless = λ i lt. rw read-version at (reads.faultless i);
    each = λ i. rw read-version at (reads.each i);
    names = rw read-version at reads.names;
    below = rw (said.names_are, said.events_are) own-taken.below;
    added = rw said.names_are own-taken.added;
  }

  pub read-one-line : list_all is_one_line (records_of bytes) ≡ true
  read-one-line =
      rw said.records_are (and_from (is_one_line said.header) (list_all is_one_line said.rows) (Plain.header-lines said.header said.version said.named) (said-lines said.version said.rows said.lines said.say))

-- so the keys of its events are those of its names
pub reads-below : (room : ℕ) (old names : List Name) (bytes : List ℕ) (events : List Event) → ReadsTo room old bytes names events → KeysBelow (length names) events
reads-below room old names bytes events reads = (read-taken room old names bytes events reads (reads-said room old names bytes events reads)).below

as-said : (room : ℕ) (old : List Name) (bytes : List ℕ) (new names : List Name) (events more others : List Event) → new ≡ names → more ≡ others
    → ReadsTo room old bytes names (events ++ others) → ReadsTo room old bytes new (events ++ more)
as-said room old bytes new names events more others a b reads = rw (a, b) reads

-- ---- whole lines that were read, and what is read after them
module _ (room : ℕ) (version : Version) (old names : List Name) (done : List ℕ) (events : List Event) (lines : AreLines version done) (first : ReadsTo room old done names events) where
  said : IsSaid old done names events
  said = reads-said room old names done events first

  first-version : said.version ≡ version
  first-version =
      let behind : records_of done ≡ header_of version ∷ records_of (10 ∷ lines.more) = rw lines.begin (records-behind version lines.more) in
      let head : said.header ∷ said.rows ≡ header_of version ∷ records_of (10 ∷ lines.more) = sym said.records_are ∙ behind in
      let same : said.header ≡ header_of version = cc in
      let named : Some said.version ≡ Some version = sym said.named ∙ ap version_of same ∙ header-names version in
      cc

  lines-taken : AreTaken room version old (records_of done) names events
  lines-taken = rw first-version at (read-taken room old names done events first said)

  lines-cut : (piece : List ℕ) → records_of (done ++ piece) ≡ records_of done ++ records_of (10 ∷ piece)
  lines-cut piece = cut version done piece lines (read-one-line room old names done events first said)

  joins : (any : ℕ) (new : List Name) (piece : List ℕ) (more : List Event) → ReadsTo any names (header_line version ++ piece) new more → length new ≤ room → length events + length more ≤ MAX_EVENTS
      → ReadsTo room old (done ++ piece) new (events ++ more)
  joins any new piece more second fits few =
      let other = reads-said any names new (header_line version ++ piece) more second in
      let head : other.header ∷ other.rows ≡ header_of version ∷ records_of (10 ∷ piece) = sym other.records_are ∙ records-behind version piece in
      let same : other.header ≡ header_of version = cc in
      let rows : other.rows ≡ records_of (10 ∷ piece) = cc in
      let named : Some other.version ≡ Some version = sym other.named ∙ ap version_of same ∙ header-names version in
      let versions : other.version ≡ version = cc in
      let say : Say version (records_of (10 ∷ piece)) other.lines = rw (versions, rows) at other.say in
      let long : length events + length other.lines ≤ MAX_EVENTS = rw (other.events_are, length-events_with) at few in
      let all = taken-said room version old (records_of done) names events (records_of (10 ∷ piece)) other.lines lines-taken say long (rw (← other.names_are) fits) in
      as-said room old (done ++ piece) new (with_lines names other.lines) events more (events_with names other.lines) other.names_are other.events_are
      (reads-to room version old (done ++ piece) (records_of done ++ records_of (10 ∷ piece)) (with_lines names other.lines) (events ++ events_with names other.lines) (lines-cut piece) all)

  -- a new reader that has a newline and then the rest of the bytes
  pub taken-on : {R : Type 0} (rem : R → Option (List ℕ)) (beneath : R) (source : Reader R) (rest : Option (List ℕ)) → IsFresh rem beneath source → rem beneath ≡ option_append (Some (10 ∷ [])) rest
      → HasTaken rem (option_map (λ bytes. done ++ bytes) rest) source room version old names events
  taken-on rem beneath source None fresh e = (records_of done, tt, lines-taken)
  taken-on rem beneath source (Some bytes) fresh e = (
    records_of done,
    given-on rem (done ++ bytes) (10 ∷ bytes) (records_of done) source (lines-cut bytes) (fresh.source_has ∙ ap (option_map strip_bom) e) fresh.state,
    lines-taken,
  )

pub if-mapped : {X Y : Type 0} (f : X → Y) (P : Y → Type 0) (known : Option X) → IfSome (option_map f known) P → IfSome known (λ x. P (f x))
if-mapped f P None h = tt
if-mapped f P (Some x) h = h

-- ---- the laws
pub headers-read : HeadersRead
headers-read room version names = (
  header-lines version,
  reads-to room version names (header_line version) (header_of version ∷ []) names [] (header-records version) (taken-header room version names (header_of version) (header-names version)),
)

pub pieces-join : PiecesJoin
pieces-join any room version old names new done piece events more lines first second fits few = joins room version old names done events lines first any new piece more second fits few
