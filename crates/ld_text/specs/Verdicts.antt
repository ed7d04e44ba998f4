-- The texts of verdicts: findings between types, each with what it was seen between [this project's own].
use Rattle.std.specs.Prelude.{[], ◌++◌, ◌+◌, ◌-◌, ◌==◌, Bool, List, None, Option, Some, codes, drop, false, flat_map, if◌then◌else◌, length, slice_index, true, ℕ}
use Rattle.ld_text.specs.Names.{Acquire, AreLevels, AreVerdictsAt, Arrow, Between, Circle, Classes, Double, End, Event, Finding, GateNote, Inversion, LevelParts, Locks, Mode, Name, OriginParts, Perhaps, Token, Types, Unknown, Verdict, count_ranked, is_nesting, mode_word, name_at, print, rank}
use Rattle.ld_text.specs.Explanation.{Sources, deadlock_text, event_of, head_text, notes_text, origins_text, walk_text}
use Rattle.ld_text.specs.Json.{dependency_members, finding_members, list_member, number_member, object, object_member, text_member}
use Rattle.ld_text.specs.Order.{IsKeyOrder}
use Rattle.ld_text.specs.Report.{total_line}
use Rattle.ld_text.specs.Words.{Text, file_at, key_text}
use Rattle.ld_text.specs.declared.verdicts.VerdictFormat.{VerdictFormat}
use Rattle.ld_text.specs.declared.verdicts.VerdictFormat.TheVariants as format
use Rattle.ld_explain.specs.Settling.{NoCircleIsLost, names_at}
use Rattle.ld_trace.specs.Classes.{numbers_at}
use Rattle.ld_trace.specs.declared.level.Level.TheVariants as level

-- ---- what the texts are of
-- these are the verdicts of these traces: the findings between the types of their locks, with the types and the locks in the order of
-- their names
pub record AreVerdictsOf (traces : List (List Event)) (names : List Name) (verdicts : List Verdict) : Type 0 where
  pub levels : LevelParts
  pub levels_are : AreLevels traces names levels
  pub keys : List ℕ
  pub keys_are : IsKeyOrder levels.type_names keys
  pub locks : List ℕ
  pub locks_are : IsKeyOrder names locks
  pub verdicts_are : AreVerdictsAt traces levels keys locks verdicts

-- no circle of the traces' single locks is lost among these verdicts of all their types
pub record KeepsCircles (traces : List (List Event)) (names : List Name) (verdicts : List Verdict) : Type 0 where
  pub keys : List ℕ
  pub keys_are : IsKeyOrder (names_at level.Types names) keys
  pub kept : NoCircleIsLost traces names (slice_index (numbers_at level.Types names (names_at level.Types names))) keys verdicts

-- words for findings between types, whose records take the traces' locks, and for those between single locks, which stand deeper
abbrev pub type_sources : List (List Event) → (types names : List Name) → List Text → (lists_traces : Bool) → List OriginParts → Sources
type_sources traces types names files lists sightings =
    record { traces = traces; names = types; locks = names; files = files; margin = codes "  "; lists_traces = lists; sightings = sightings }

abbrev pub lock_sources : List (List Event) → (names : List Name) → List Text → (lists_traces : Bool) → List OriginParts → Sources
lock_sources traces names files lists sightings =
    record { traces = traces; names = names; locks = names; files = files; margin = codes "    "; lists_traces = lists; sightings = sightings }

-- ---- lines for people
-- what was seen: a walk, or a key
abbrev pub seen_text : List Name → Finding → List ℕ
seen_text names (Circle walk gates only) = walk_text names walk.items
seen_text names (Double irq key used enabled) = key_text (name_at names key)
seen_text names (Inversion irq a b walk used enabled gates) = walk_text names walk.items

-- where a finding between single locks comes from, and what speaks against it
abbrev pub nested_text : Sources → Finding → List ℕ
nested_text sources nested = origins_text sources nested ++ notes_text sources nested

-- what a finding was seen between
abbrev pub between_text : Sources → (is_nesting : Bool) → Between → List ℕ
between_text locks is_nesting (Locks nested) =
    codes "  seen between locks: " ++ (seen_text locks.names nested ++ (codes "\n" ++ nested_text locks nested))
between_text locks is_nesting (Perhaps nested) = codes "  perhaps seen between locks: "
    ++ (seen_text locks.names nested ++ (codes "; #rest is several locks\n" ++ nested_text locks nested))
between_text locks is_nesting Unknown = codes "  not known whether seen between locks: more than 256 keys lead to one another\n"
between_text locks is_nesting Classes = codes "  seen only between classes, not between single locks\n"
between_text locks is_nesting Types = if is_nesting
    then codes "  seen only between types, as one type nested in itself: a note, and no finding\n"
    else codes "  seen only between types, not between classes\n"

-- a finding, and what it was seen between before what speaks against it
abbrev pub verdict_block : (types locks : Sources) → Verdict → List ℕ
verdict_block types locks v = head_text types.names v.finding ++ (origins_text types v.finding ++ (deadlock_text types.names v.finding
    ++ (between_text locks (is_nesting v.finding) v.between ++ notes_text types v.finding)))

-- the text of a verdict, if it has this rank
abbrev pub ranked : (Verdict → List ℕ) → (r : ℕ) → Verdict → List ℕ
ranked f r v = if rank v == r then f v else []

-- the texts of all verdicts, by rank
abbrev pub in_order : (Verdict → List ℕ) → List Verdict → List ℕ
in_order f verdicts = flat_map (ranked f 0) verdicts ++ (flat_map (ranked f 1) verdicts ++ (flat_map (ranked f 2) verdicts
    ++ (flat_map (ranked f 3) verdicts ++ (flat_map (ranked f 4) verdicts ++ flat_map (ranked f 5) verdicts))))

-- how many findings there are, without notes, and each verdict
unfoldable pub verdict_lines : (types locks : Sources) → List Verdict → List ℕ
verdict_lines types locks verdicts =
    total_line (codes "findings") (length verdicts - count_ranked verdicts 5) ++ in_order (verdict_block types locks) verdicts

-- ---- JSON, version 3
-- a dependency without its occurrence
abbrev pub dependency_object : List Name → Arrow → List Token
dependency_object names d = object (dependency_members names d)

-- a gate, with the dependencies that it is held round
abbrev pub gate_object : List Name → GateNote → List Token
gate_object names gate = object (text_member (codes "gate") (key_text (name_at names gate.key))
    ++ list_member (codes "orders") (flat_map (dependency_object names) gate.guarded.items))

-- the file that alone has all occurrences, if one has
abbrev pub only_member : List Text → Option ℕ → List Token
only_member files None = []
only_member files (Some trace) = text_member (codes "only") (file_at files trace)

-- the notes as objects
abbrev pub note_members : Sources → Finding → List Token
note_members sources (Circle walk gates only) =
    list_member (codes "gates") (flat_map (gate_object sources.names) gates.items) ++ only_member sources.files only
note_members sources (Double irq key used enabled) = []
note_members sources (Inversion irq a b walk used enabled gates) =
    list_member (codes "gates") (flat_map (gate_object sources.names) gates.items)

-- a finding's members of version 1, and its notes as objects
abbrev pub noted_members : Sources → Finding → List Token
noted_members sources finding = finding_members sources finding ++ note_members sources finding

-- what a finding was seen between
abbrev pub between_members : Sources → (is_nesting : Bool) → Between → List Token
between_members locks is_nesting (Locks nested) =
    text_member (codes "kind") (codes "locks") ++ object_member (codes "finding") (noted_members locks nested)
between_members locks is_nesting (Perhaps nested) =
    text_member (codes "kind") (codes "perhaps") ++ object_member (codes "finding") (noted_members locks nested)
between_members locks is_nesting Unknown = text_member (codes "kind") (codes "unknown")
between_members locks is_nesting Classes = text_member (codes "kind") (codes "classes")
between_members locks is_nesting Types = text_member (codes "kind") (if is_nesting then codes "nested" else codes "types")

-- a verdict on a line of its own, after a comma
abbrev pub verdict_members : (types locks : Sources) → Verdict → List Token
verdict_members types locks v = noted_members types v.finding
    ++ object_member (codes "between") (between_members locks (is_nesting v.finding) v.between)

abbrev pub verdict_line : (types locks : Sources) → Verdict → List ℕ
verdict_line types locks v = codes ",\n" ++ print (object (verdict_members types locks v))

-- how many verdicts there are of each rank
abbrev pub count_members : List Verdict → List Token
count_members verdicts = number_member (codes "locks") (count_ranked verdicts 0) ++ (number_member (codes "perhaps") (count_ranked verdicts 1)
    ++ (number_member (codes "unknown") (count_ranked verdicts 2) ++ (number_member (codes "classes") (count_ranked verdicts 3)
    ++ (number_member (codes "types") (count_ranked verdicts 4) ++ number_member (codes "nested") (count_ranked verdicts 5)))))

-- a lock and how it was taken, if the event takes one
abbrev pub lock_members : List Name → (lock : ℕ) → Mode → List Token
lock_members names lock mode = text_member (codes "key") (key_text (name_at names lock)) ++ text_member (codes "mode") (mode_word mode)

abbrev pub taken_members : List Name → Option Event → List Token
taken_members names (Some (Acquire mode lock)) = lock_members names lock mode
taken_members names _ = []

-- a lock that is held at the end of a trace
abbrev pub kept_object : Sources → (trace place : ℕ) → List Token
kept_object locks trace place = object (taken_members locks.names (event_of locks.traces trace place)
    ++ number_member (codes "record") (place + 2))

-- what is held at the end of a trace, on a line of its own, after a comma
abbrev pub end_members : Sources → End → List Token
end_members locks e = text_member (codes "file") (file_at locks.files e.trace)
    ++ list_member (codes "holds") (flat_map (kept_object locks e.trace) e.kept.items)

abbrev pub end_line : Sources → End → List ℕ
end_line locks e = codes ",\n" ++ print (object (end_members locks e))

-- one object with the counts, all verdicts and all ends; the first line of each list has no comma before it
unfoldable pub verdict_json : (types locks : Sources) → List Verdict → List End → List ℕ
verdict_json types locks verdicts ends = codes "{\"lockdep\":3,\"counts\":" ++ (print (object (count_members verdicts))
    ++ (codes ",\"findings\":[" ++ (drop 1 (in_order (verdict_line types locks) verdicts)
    ++ (codes "\n],\"ends\":[" ++ (drop 1 (flat_map (end_line locks) ends) ++ codes "\n]}\n")))))

-- ---- the text
-- verdicts of traces in these files, whose locks' types have the one names and the locks the other: as lines for people, or as JSON,
-- which says their whereabouts too
abbrev pub verdicts_text : VerdictFormat → List (List Event) → (types names : List Name) → List Text → List Verdict → List ℕ
verdicts_text format.Lines traces types names files verdicts =
    verdict_lines (type_sources traces types names files false []) (lock_sources traces names files false []) verdicts
verdicts_text (format.Json w) traces types names files verdicts =
    verdict_json (type_sources traces types names files true w.now.types) (lock_sources traces names files true w.now.locks)
    verdicts w.now.ends.items
