-- Which keys facts are about [this project's own].
use Rattle.std.specs.Prelude.{List, slice_index, ℕ}
use Rattle.ld_explain.specs.Names.{Event}
use Rattle.ld_explain.specs.Origins.{View}
use Rattle.ld_explain.specs.declared.naming.Naming.{Naming}
use Rattle.ld_explain.specs.declared.naming.Naming.TheVariants.{Own, Renamed}

-- what a key of the traces is called
abbrev pub key_by : Naming → ℕ → ℕ
key_by Own = λ key. key
key_by (Renamed others) = slice_index others.now

-- traces with their keys called so
abbrev pub view_of : Naming → List (List Event) → View
view_of naming traces = record { traces = traces; rename = key_by naming }
