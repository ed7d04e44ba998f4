-- The findings as JSON: what `explain` says, for programs to read [this project's own; JSON is RFC 8259].
use Rattle.std.specs.Prelude.{[], ◌++◌, ◌+◌, ◌∷◌, List, None, Option, Some, codes, decimal, drop, flat_map, if◌then◌else◌, length, map, take, ℕ}
use Rattle.ld_text.specs.Names.{Acquire, Arrow, Circle, Double, Event, Finding, GateNote, Inversion, Irq, Name, Order, Origin, Token, TurnOn, begin_array, begin_object, end_array, end_object, irq_word, key, mode_word, name_at, number, places_in, print, string}
use Rattle.ld_text.specs.Explanation.{Sources, dependency_text, event_of, gate_note, only_notes}
use Rattle.ld_text.specs.Words.{file_at, key_text, kind_text}
use Rattle.ld_text.specs.declared.json_traces.TheConstants.{MOST_TRACES}

-- Members of objects.

-- a member whose value is a text, a number, a list or an object
abbrev pub text_member : (name value : List ℕ) → List Token
text_member name value = key name ∷ string value ∷ []

abbrev pub number_member : (name : List ℕ) (value : ℕ) → List Token
number_member name value = key name ∷ number (decimal value) ∷ []

abbrev pub list_member : (name : List ℕ) (values : List Token) → List Token
list_member name values = key name ∷ begin_array ∷ (values ++ end_array ∷ [])

abbrev pub object : (members : List Token) → List Token
object members = begin_object ∷ (members ++ end_object ∷ [])

abbrev pub object_member : (name : List ℕ) (members : List Token) → List Token
object_member name members = key name ∷ object members

-- Where a fact comes from.

-- how the event takes its lock, or the flag that it turns on
abbrev pub event_members : Option Event → List Token
event_members (Some (Acquire mode lock)) = text_member (codes "takes") (mode_word mode)
event_members (Some (TurnOn irq)) = text_member (codes "turns_on") (irq_word irq)
event_members _ = []

-- how the event took its lock
abbrev pub taken_mode : Option Event → List ℕ
taken_mode (Some (Acquire mode lock)) = mode_word mode
taken_mode _ = []

-- how the lock that is held meanwhile was taken, and by which record
abbrev pub held_members : Sources → (trace : ℕ) → Option ℕ → List Token
held_members sources trace None = []
held_members sources trace (Some held) =
    text_member (codes "held") (taken_mode (event_of sources.traces trace held)) ++ number_member (codes "since") (held + 2)

-- an occurrence: its file and record, what the event does, and what is held meanwhile
abbrev pub occurrence_members : Sources → Origin → List Token
occurrence_members sources origin = text_member (codes "file") (file_at sources.files origin.trace)
    ++ (number_member (codes "record") (origin.place + 2)
    ++ (event_members (event_of sources.traces origin.trace origin.place) ++ held_members sources origin.trace origin.held))

-- a dependency, and where it first occurs
abbrev pub dependency_members : List Name → Arrow → List Token
dependency_members names d = text_member (codes "from") (key_text (name_at names d.start))
    ++ (text_member (codes "kind") (kind_text d.kind) ++ text_member (codes "to") (key_text (name_at names d.end)))

-- the record that took the lock that is held meanwhile
abbrev pub since_member : Option ℕ → List Token
since_member None = []
since_member (Some held) = number_member (codes "since") (held + 2)

-- its first occurrence in a trace
abbrev pub place_members : Sources → Origin → List Token
place_members sources origin = text_member (codes "file") (file_at sources.files origin.trace)
    ++ (number_member (codes "record") (origin.place + 2) ++ since_member origin.held)

abbrev pub place_object : Sources → Origin → List Token
place_object sources origin = object (place_members sources origin)

-- how many traces have it, and the first of them
abbrev pub places_members : Sources → List Origin → List Token
places_members sources places = number_member (codes "count") (length places)
    ++ list_member (codes "first") (flat_map (place_object sources) (take MOST_TRACES places))

abbrev pub traces_member : Sources → Arrow → List Token
traces_member sources d =
    if sources.lists_traces then object_member (codes "traces") (places_members sources (places_in sources.sightings d)) else []

abbrev pub order_object : Sources → Order → List Token
order_object sources order = object (dependency_members sources.names order.dependency
    ++ (occurrence_members sources order.origin ++ traces_member sources order.dependency))

-- Findings: each with the lines that the report has of it.

-- a report's line of a dependency on a circle, of a double and of an inversion, without its end
abbrev pub circle_words : List Name → Arrow → List ℕ
circle_words names d = codes "circle " ++ dependency_text names d

abbrev pub double_words : List Name → Irq → (key : ℕ) → List ℕ
double_words names irq lock = codes "double " ++ (irq_word irq ++ (codes " " ++ key_text (name_at names lock)))

abbrev pub inversion_words : List Name → Irq → (a b : ℕ) → List ℕ
inversion_words names irq a b = codes "inversion " ++ (irq_word irq ++ (codes " " ++ (key_text (name_at names a)
    ++ (codes " " ++ key_text (name_at names b)))))

-- the keys that the members of a walk lead from, the report's line of each, and where each first occurs
abbrev pub keys_member : List Name → List Order → List Token
keys_member names walk = list_member (codes "keys") (map (λ order. string (key_text (name_at names order.dependency.start))) walk)

abbrev pub lines_member : List Name → List Order → List Token
lines_member names walk = list_member (codes "lines") (map (λ order. string (circle_words names order.dependency)) walk)

abbrev pub orders_member : Sources → List Order → List Token
orders_member sources walk = list_member (codes "orders") (flat_map (order_object sources) walk)

-- where the lower lock's key is used in the state, and where the upper's is used with it enabled
abbrev pub use_members : Sources → (used enabled : Origin) → List Token
use_members sources used enabled = object_member (codes "used") (occurrence_members sources used)
    ++ object_member (codes "enabled") (occurrence_members sources enabled)

-- the notes
abbrev pub notes_member : Sources → List GateNote → (only : Option ℕ) → List Token
notes_member sources gates only = list_member (codes "notes")
    (map (λ gate. string (gate_note sources.names gate)) gates ++ map string (only_notes sources.files only))

-- what is said of a finding
abbrev pub finding_members : Sources → Finding → List Token
finding_members sources (Circle walk gates only) =
    text_member (codes "type") (codes "circle")
    ++ (keys_member sources.names walk.items
    ++ (lines_member sources.names walk.items
    ++ (orders_member sources walk.items
    ++ notes_member sources gates.items only)))
finding_members sources (Double irq lock used enabled) =
    text_member (codes "type") (codes "double")
    ++ (text_member (codes "irq") (irq_word irq)
    ++ (text_member (codes "key") (key_text (name_at sources.names lock))
    ++ (list_member (codes "lines") (string (double_words sources.names irq lock) ∷ [])
    ++ use_members sources used enabled)))
finding_members sources (Inversion irq a b walk used enabled gates) =
    text_member (codes "type") (codes "inversion")
    ++ (text_member (codes "irq") (irq_word irq)
    ++ (list_member (codes "keys") (string (key_text (name_at sources.names a)) ∷ string (key_text (name_at sources.names b)) ∷ [])
    ++ (list_member (codes "lines") (string (inversion_words sources.names irq a b) ∷ [])
    ++ (orders_member sources walk.items
    ++ (use_members sources used enabled
    ++ notes_member sources gates.items None)))))

-- The whole text.

-- a finding on a line of its own, after a comma
abbrev pub finding_line : Sources → Finding → List ℕ
finding_line sources finding = codes ",\n" ++ print (object (finding_members sources finding))

-- one object with all findings; the first line has no comma before it
unfoldable pub json_text : Sources → List Finding → List ℕ
json_text sources findings =
    codes "{\"lockdep\":1,\"findings\":[" ++ (drop 1 (flat_map (finding_line sources) findings) ++ codes "\n]}\n")
