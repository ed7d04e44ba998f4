-- What the name of a lock tells of its class: `CLASS#N` is lock N of a class, and the class `TYPE@PLACE` is of a type
-- [this project's own].
use Rattle.std.specs.Prelude.{ℕ, ◌==◌, ◌&&◌, Bool, false, not, List, Option, Some, None, codes, length, if◌then◌else◌, map}
use Rattle.std.specs.List.{before_first}
use Rattle.std.specs.Path.{rsplit_once}
use Rattle.std.specs.Str.{bytes_eq}
use Rattle.ld_trace.specs.Names.{Name, place_of}
use Rattle.ld_trace.specs.declared.level.Level.{Level}
use Rattle.ld_trace.specs.declared.level.Level.TheVariants.{Locks, Classes, Types}

-- the bytes before a mark, if there are any, and else all of them
abbrev pub some_or : (before all : List ℕ) → List ℕ
some_or before all = if length before == 0 then all else before

-- the name up to the first `@`
abbrev pub before_at : List ℕ → List ℕ
before_at name = before_first (λ byte. byte == 64) name

-- the class of a name: what stands before its last `#`, if anything does, and else the whole name
abbrev pub class_by : (name : List ℕ) → Option (List ℕ × List ℕ) → List ℕ
class_by name None = name
class_by name (Some split) = some_or split.0 name

abbrev pub class_of : List ℕ → List ℕ
class_of name = class_by name (rsplit_once 35 name)

-- the type of a class: what stands before its first `@`, if anything does, and else the whole class
abbrev pub type_of : List ℕ → List ℕ
type_of name = some_or (before_at (class_of name)) (class_of name)

-- whether the name stands for all locks of its class that aren't told apart: `CLASS#rest`, or `CLASS#rest@N` of recording N
abbrev pub is_rest_by : Option (List ℕ × List ℕ) → Bool
is_rest_by None = false
is_rest_by (Some split) = not (length split.0 == 0) && bytes_eq (before_at split.1) (codes "rest")

abbrev pub is_rest : List ℕ → Bool
is_rest name = is_rest_by (rsplit_once 35 name)

-- a key's name at a level: the lock's own, that of its class or that of its type, with the subclass
abbrev pub text_at : Level → List ℕ → List ℕ
text_at Locks name = name
text_at Classes name = class_of name
text_at Types name = type_of name

abbrev pub name_by : Level → Name → Name
name_by level name = (text_at level name.0, name.1)

-- the numbers that the names have at a level, in a table of such names
abbrev pub numbers_at : Level → (names others : List Name) → List ℕ
numbers_at level names others = map (λ name. place_of others (name_by level name)) names
