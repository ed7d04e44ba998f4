-- The text of `explain`: what was found, and the records that it comes from [this project's own].
use Rattle.std.specs.Prelude.{[], ◌++◌, ◌+◌, ◌∷◌, Bool, List, None, Option, Some, codes, decimal, false, flat_map, length, slice_get, suc, unwrap_or, ℕ}
use Rattle.ld_text.specs.Names.{Acquire, Arrow, Circle, Double, Event, Finding, GateNote, Inversion, Irq, Name, Order, Origin, OriginParts, TurnOn, event, irq_word, name_at}
use Rattle.ld_text.specs.ChainLines.{taken_text}
use Rattle.ld_text.specs.Report.{double_line, inversion_line, member_text, total_line}
use Rattle.ld_text.specs.Words.{Text, file_at, key_text}

-- what findings are put into words by: the traces, the names of the keys that findings are about and those of the locks in the traces,
-- the files that the traces were read from, what the lines of a block begin with, whether to say in which traces dependencies are, and
-- the first occurrences in each trace by itself
pub record Sources : Type 0 where
  pub traces : List (List Event)
  pub names : List Name
  pub locks : List Name
  pub files : List Text
  pub margin : Text
  pub lists_traces : Bool
  pub sightings : List OriginParts

-- where findings are about the locks of the traces
abbrev pub sources_of : List (List Event) → List Name → List Text → Sources
sources_of traces names files =
    record { traces = traces; names = names; locks = names; files = files; margin = codes "  "; lists_traces = false; sightings = [] }

-- Where a fact comes from.

-- the event at this place of a trace
abbrev pub event_of : List (List Event) → (trace place : ℕ) → Option Event
event_of traces trace place = event (unwrap_or (slice_get traces trace) []) place

-- what the event does: the lock that it takes, and how, or the flag that it turns on
abbrev pub does_text : List Name → Option Event → List ℕ
does_text names (Some (Acquire mode key)) = codes " takes " ++ taken_text names key mode
does_text names (Some (TurnOn irq)) = codes " turns " ++ (irq_word irq ++ codes "s on")
does_text names _ = []

-- the lock that the event took
abbrev pub lock_of : List Name → Option Event → List ℕ
lock_of names (Some (Acquire mode key)) = taken_text names key mode
lock_of names _ = []

-- the lock that is held meanwhile, and since when. A record's number counts the header: it is the event's place and two more
abbrev pub while_text : Sources → (trace : ℕ) → Option ℕ → List ℕ
while_text sources trace None = []
while_text sources trace (Some held) = codes ", with " ++ (lock_of sources.locks (event_of sources.traces trace held)
    ++ (codes " held since record " ++ decimal (held + 2)))

-- an occurrence: its file and record, what the event does, and what is held meanwhile
abbrev pub occurrence_text : Sources → Origin → List ℕ
occurrence_text sources origin = file_at sources.files origin.trace ++ (codes ": record " ++ (decimal (origin.place + 2)
    ++ (does_text sources.locks (event_of sources.traces origin.trace origin.place) ++ while_text sources origin.trace origin.held)))

-- where a fact first occurs, after the words for it
abbrev pub origin_line : Sources → (words : List ℕ) → Origin → List ℕ
origin_line sources words origin = sources.margin ++ (words ++ (codes ": " ++ (occurrence_text sources origin ++ codes "\n")))

-- the two keys of a dependency, and its kind between them
abbrev pub dependency_text : List Name → Arrow → List ℕ
dependency_text names d = key_text (name_at names d.start) ++ member_text names d

-- where a dependency comes from
abbrev pub order_line : Sources → Order → List ℕ
order_line sources order = origin_line sources (dependency_text sources.names order.dependency) order.origin

-- where the lower lock's key is used in a state, and where the upper's is used with it enabled
abbrev pub use_lines : Sources → Irq → (used enabled : Origin) → List ℕ
use_lines sources irq used enabled = origin_line sources (codes "used in " ++ irq_word irq) used
    ++ origin_line sources (codes "used with " ++ (irq_word irq ++ codes "s on")) enabled

-- How it ends in a deadlock.

-- a task holds the lock that a dependency leads from, and waits for the other
abbrev pub waits_line : List Name → (task : ℕ) → Arrow → List ℕ
waits_line names task d = codes "  task " ++ (decimal task ++ (codes " holds " ++ (key_text (name_at names d.start)
    ++ (codes " and waits for " ++ (key_text (name_at names d.end) ++ codes "\n")))))

-- each member of a walk by a task of its own, which are numbered from this one on
abbrev pub waits_text : List Name → (task : ℕ) → List Order → List ℕ
waits_text names task [] = []
waits_text names task (order ∷ walk) = waits_line names task order.dependency ++ waits_text names (suc task) walk

-- task 1 holds a lock
abbrev pub holds_line : List Name → (key : ℕ) → List ℕ
holds_line names key = codes "  task 1 holds " ++ (key_text (name_at names key) ++ codes "\n")

-- an interrupt comes in at it and waits for a lock
abbrev pub comes_line : List Name → Irq → (key : ℕ) → List ℕ
comes_line names irq key = codes "  a " ++ (irq_word irq ++ (codes " comes in at task 1 and waits for "
    ++ (key_text (name_at names key) ++ codes "\n")))

-- What speaks against it.

-- dependencies, the first after a colon and each further one after a comma
abbrev pub listed_text : List Name → List Arrow → List ℕ
listed_text names [] = []
listed_text names (first ∷ rest) =
    codes ": " ++ (dependency_text names first ++ flat_map (λ d. codes ", " ++ dependency_text names d) rest)

-- the note that a lock of the key is held round dependencies
abbrev pub gate_note : List Name → GateNote → Text
gate_note names gate = codes "always inside " ++ (key_text (name_at names gate.key) ++ listed_text names gate.guarded.items)

-- the note that one trace has all occurrences of the dependencies, if one has
abbrev pub only_notes : List Text → Option ℕ → List Text
only_notes files None = []
only_notes files (Some trace) = (codes "only in " ++ file_at files trace) ∷ []

-- the line of a note
abbrev pub note_line : (margin : Text) → Text → List ℕ
note_line margin note = margin ++ (codes "note: " ++ (note ++ codes "\n"))

abbrev pub gate_lines : Sources → List GateNote → List ℕ
gate_lines sources = flat_map (λ gate. note_line sources.margin (gate_note sources.names gate))

-- What is reported.

-- a walk, from the key that its first member starts at
abbrev pub walk_text : List Name → List Order → List ℕ
walk_text names [] = []
walk_text names (first ∷ rest) =
    key_text (name_at names first.dependency.start) ++ flat_map (λ order. member_text names order.dependency) (first ∷ rest)

-- the first line of a finding, after an empty line
abbrev pub head_text : List Name → Finding → List ℕ
head_text names (Circle walk gates only) = codes "\ncircle " ++ (walk_text names walk.items ++ codes "\n")
head_text names (Double irq key used enabled) = codes "\n" ++ double_line names irq key
head_text names (Inversion irq a b walk used enabled gates) = codes "\n" ++ inversion_line names irq a b

-- where it comes from
abbrev pub origins_text : Sources → Finding → List ℕ
origins_text sources (Circle walk gates only) = flat_map (order_line sources) walk.items
origins_text sources (Double irq key used enabled) = use_lines sources irq used enabled
origins_text sources (Inversion irq a b walk used enabled gates) =
    flat_map (order_line sources) walk.items ++ use_lines sources irq used enabled

-- how it ends in a deadlock
abbrev pub deadlock_text : List Name → Finding → List ℕ
deadlock_text names (Circle walk gates only) = waits_text names 1 walk.items
deadlock_text names (Double irq key used enabled) = holds_line names key ++ comes_line names irq key
deadlock_text names (Inversion irq a b walk used enabled gates) =
    holds_line names b ++ (waits_text names 2 walk.items ++ comes_line names irq a)

-- what speaks against it
abbrev pub notes_text : Sources → Finding → List ℕ
notes_text sources (Circle walk gates only) =
    gate_lines sources gates.items ++ flat_map (note_line sources.margin) (only_notes sources.files only)
notes_text sources (Double irq key used enabled) = []
notes_text sources (Inversion irq a b walk used enabled gates) = gate_lines sources gates.items

-- a finding
abbrev pub block_text : Sources → Finding → List ℕ
block_text sources finding = head_text sources.names finding ++ (origins_text sources finding
    ++ (deadlock_text sources.names finding ++ notes_text sources finding))

-- how many findings there are, and each of them
unfoldable pub explanation_text : Sources → List Finding → List ℕ
explanation_text sources findings = total_line (codes "findings") (length findings) ++ flat_map (block_text sources) findings
