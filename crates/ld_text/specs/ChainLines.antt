-- The text of a trace's chains [this project's own].
use Rattle.std.specs.Prelude.{◌++◌, List, None, Option, Some, codes, decimal, length, take, ℕ}
use Rattle.ld_text.specs.Names.{ChainParts, Event, Flags, Frame, Hard, Lock, Mode, Name, Soft, chains, is_on, mode_word, name_at}
use Rattle.std.specs.List.{flat_map}
use Rattle.ld_text.specs.Words.{flag_text, frame_text, key_text}

-- a key and how it is taken
abbrev pub taken_text : List Name → ℕ → Mode → List ℕ
taken_text names key mode = key_text (name_at names key) ++ (codes " " ++ mode_word mode)

-- the flags: hardirq, softirq
abbrev pub flags_text : Flags → List ℕ
flags_text flags = flag_text (is_on Hard flags) ++ (codes " " ++ flag_text (is_on Soft flags))

-- what a line says of the chain itself: an acquisition or an opening, and the flags
abbrev pub head_text : List Name → Option (Lock × Frame) → Flags → List ℕ
head_text names (Some new) flags =
    codes "acq " ++ (taken_text names new.0.key new.0.mode
    ++ (codes " " ++ (frame_text new.1 ++ (codes " " ++ flags_text flags))))
head_text names None flags = codes "on " ++ flags_text flags

-- a held lock
abbrev pub lock_text : List Name → Lock → List ℕ
lock_text names lock = codes " " ++ taken_text names lock.key lock.mode

-- how many locks are held, and which
abbrev pub held_text : List Name → List Lock → List ℕ
held_text names locks = codes " held " ++ (decimal (length locks) ++ flat_map (lock_text names) locks)

-- the line of a chain
unfoldable pub chain_line : List Name → ChainParts → List ℕ
chain_line names c =
    head_text names c.new_lock c.flags ++ (held_text names c.held_locks ++ codes "\n")

-- the lines of the trace's chains, in order
unfoldable pub chains_text : List Name → List Event → List ℕ
chains_text names t = flat_map (chain_line names) (chains t)

-- the lines of the chains of the trace's first n events
abbrev pub lines_before : List Name → List Event → ℕ → List ℕ
lines_before names t n = chains_text names (take n t)
