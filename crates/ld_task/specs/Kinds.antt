-- The four kinds of dependencies and their two letters ["Dependency types and strong dependency paths"].
use Rattle.std.specs.Prelude.{◌≡◌, Bool, true, false, refl}
use Rattle.ld_trace.specs.declared.event.Mode.{Mode}
use Rattle.ld_trace.specs.Modes.{is_read, is_recursive}
use Rattle.ld_task.specs.declared.kind.Kind.{Kind}
use Rattle.ld_task.specs.declared.kind.Kind.TheVariants.{Er, En, Sr, Sn}

-- whether a kind's first letter is S
abbrev pub is_s : Kind → Bool
is_s Er = false
is_s En = false
is_s Sr = true
is_s Sn = true

-- whether a kind's second letter is R
abbrev pub is_r : Kind → Bool
is_r Er = true
is_r En = false
is_r Sr = true
is_r Sn = false

-- the kind with these letters
abbrev pub kind_of_letters : (first_is_s second_is_r : Bool) → Kind
kind_of_letters false true = Er
kind_of_letters false false = En
kind_of_letters true true = Sr
kind_of_letters true false = Sn

-- the kind of a dependency from a lock held in the first mode to one taken in the second: the first letter is S if the
-- held lock was taken by a reader of either kind, the second R if the new one is taken by a recursive reader
abbrev pub kind_between : Mode → Mode → Kind
kind_between held taken = kind_of_letters (is_read held) (is_recursive taken)

-- a kind is that of its letters
pub kind_of_letters-letters : (kind : Kind) → kind_of_letters (is_s kind) (is_r kind) ≡ kind
kind_of_letters-letters Er = refl
kind_of_letters-letters En = refl
kind_of_letters-letters Sr = refl
kind_of_letters-letters Sn = refl

-- the letters of a kind are those that it is made of
pub is_s-kind_of_letters : (s r : Bool) → is_s (kind_of_letters s r) ≡ s
is_s-kind_of_letters true true = refl
is_s-kind_of_letters true false = refl
is_s-kind_of_letters false true = refl
is_s-kind_of_letters false false = refl

pub is_r-kind_of_letters : (s r : Bool) → is_r (kind_of_letters s r) ≡ r
is_r-kind_of_letters true true = refl
is_r-kind_of_letters true false = refl
is_r-kind_of_letters false true = refl
is_r-kind_of_letters false false = refl
