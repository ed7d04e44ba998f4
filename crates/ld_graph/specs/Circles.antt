-- What callers see of a circle: the list of its arrows.
use Rattle.std.specs.Prelude.{ℕ, List, map, reverse}
use Rattle.ld_task.specs.declared.kind.Kind.{Kind}
use Rattle.ld_facts.specs.Arrows.{Arrow}
use Rattle.ld_facts.specs.Inside.Rows.{arrow_of}
use Rattle.ld_facts.specs.declared.dependency.Dependency.{Dependency}

-- the arrows of dependencies that are kept the last first
abbrev pub forwards : List Dependency → List Arrow
forwards backwards = reverse (map arrow_of backwards)

-- an arrow's start, end and kind
abbrev pub arrow_parts : Arrow → ℕ × ℕ × Kind
arrow_parts d = (d.start, d.end, d.kind)
