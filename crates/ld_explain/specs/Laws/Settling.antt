-- How many names there are at a level.
use Rattle.std.proofs.Common.{[], ◌++◌, ◌+◌, ◌∷◌, ◌≤◌, Bool, List, arith, false, if◌then◌else◌, length, map, true}
use Rattle.std.proofs.lemmas.List.{length-append, length-map}
use Rattle.ld_trace.specs.Classes.{name_by}
use Rattle.ld_trace.specs.Names.{Name, is_known, with_name}
use Rattle.ld_trace.specs.TakingIn.{with_all}
use Rattle.ld_trace.specs.declared.level.Level.{Level}
use Rattle.ld_explain.specs.Settling.{names_at}

with_all-few : (names more : List Name) → length (with_all names more) ≤ length names + length more
unfolding with_all
with_all-few names [] = omega arith
with_all-few names (name ∷ more) = omega (arith, with_all-few (with_name names name) more, one (is_known names name))
  where
    one : (known : Bool) → length (if known then names else names ++ name ∷ []) ≤ length names + 1
    one true = omega arith
    one false = omega (arith, length-append names (name ∷ []))

pub names_at-few : (level : Level) (names : List Name) → length (names_at level names) ≤ length names
names_at-few level names = omega (arith, with_all-few [] (map (name_by level) names), length-map names (name_by level))
