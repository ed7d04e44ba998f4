-- What is left to read of the program's input or of a file, and which file is named. No public clause speaks of these.
use Rattle.std.specs.Prelude.{◌≡◌, List, Option, Some, slice_get, ℕ}
use Rattle.lockdep.specs.Names.{Text}
use Rattle.lockdep.specs.declared.refusal.Refusal.{Refusal}
use Rattle.lockdep.specs.declared.refusal.Refusal.TheVariants.{CannotOpen, Reading}
use Rattle.lockdep.specs.declared.source.Source.{Source}
use Rattle.lockdep.specs.declared.source.Source.TheVariants.{Input, File}

-- the bytes that are left, if they are known
abbrev pub remaining_in : {I F : Type 0} → (I → Option (List ℕ)) → (F → Option (List ℕ)) → Source I F → Option (List ℕ)
remaining_in of_input of_file (Input input) = of_input input
remaining_in of_input of_file (File file) = of_file file

-- the refusal names the file at this place of the list, which can't be opened or is refused while it is read
abbrev pub NamesFileAt : List Text → ℕ → Refusal → Type 0
NamesFileAt files place (CannotOpen named) = slice_get files place ≡ Some named.now
NamesFileAt files place (Reading named fault) = slice_get files place ≡ Some named.now
NamesFileAt files place _ = ⊥
