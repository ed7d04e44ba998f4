-- What holds of all facts: the laws that this crate proves of its definitions. A set of facts is a test in some of them.
pub mod Facts
use Rattle.std.specs.Prelude.{◌≡◌, ℕ, ◌⊎◌, Bool, IsTrue, IsFalse, List, ◌∷◌, ◌++◌}
use Rattle.ld_trace.specs.declared.event.Irq.{Irq}
use Rattle.ld_task.specs.declared.mark.Mark.TheVariants.{UsedIn, Enabled}
use Rattle.ld_task.specs.Kinds.{is_s, is_r}
use Rattle.ld_facts.specs.Arrows.{Arrow}
use Rattle.ld_facts.specs.Facts.{DependenciesOf}
use Rattle.ld_facts.specs.FactBits.{FactParts, HasFact}
use Rattle.ld_graph.specs.Links.{IsDoubleBy, IsInversionWith}
use Rattle.ld_graph.specs.Walks.{ClosedWalk, IsShortestCircle}
use Rattle.ld_facts.specs.declared.fact.Fact.{Fact}
use Rattle.ld_facts.specs.declared.fact.Fact.TheVariants.{Dependency, Marked}

-- ---- what is new suffices
-- the set of a test
abbrev pub In : (Fact → Bool) → Fact → Type 0
In set x = IsTrue (set x)

-- in the later set, and not in the earlier
abbrev pub IsNew : (old new : Fact → Bool) → Fact → Type 0
IsNew old new x = In new x × IsFalse (old x)

-- a new dependency d is a member of the walk, which is the first part, d and the last part
pub record HasNewMember (old new : Fact → Bool) (walk : List Arrow) : Type 0 where
  pub first : List Arrow
  pub d : Arrow
  pub last : List Arrow
  pub whole : walk ≡ first ++ d ∷ last
  pub is_new : IsNew old new (Dependency d.start d.end d.kind)

-- a mark at one of the link's ends is new
abbrev pub HasNewEnd : (old new : Fact → Bool) → Irq → Arrow → Type 0
HasNewEnd old new irq l =
    IsNew old new (Marked l.start (Enabled irq (is_s l.kind))) ⊎
    IsNew old new (Marked l.end (UsedIn irq (is_r l.kind)))

-- a closed strong walk is one of the earlier facts, or has a new member and can be turned to begin with it
abbrev pub NewCirclesHaveNewMembers : Type 0
NewCirclesHaveNewMembers = (old new : Fact → Bool) (a : Arrow) (rest : List Arrow) →
    ClosedWalk (DependenciesOf (In new)) a rest →
    ClosedWalk (DependenciesOf (In old)) a rest ⊎
    ((m : HasNewMember old new (a ∷ rest)) ×
    ClosedWalk (DependenciesOf (In new)) m.d (m.last ++ m.first))

-- a double is one by the earlier facts, or its link has a new mark
abbrev pub NewDoublesHaveNewMarks : Type 0
NewDoublesHaveNewMarks = (old new : Fact → Bool) (irq : Irq) (a : ℕ) (l : Arrow) →
    IsDoubleBy (In new) irq a l → IsDoubleBy (In old) irq a l ⊎ HasNewEnd old new irq l

-- an inversion is one by the earlier facts, or its link has a new mark, or its walk a new member: then a first part of
-- the walk ends before it and a last part begins after it
abbrev pub NewInversionsHaveNewParts : Type 0
NewInversionsHaveNewParts =
    (old new : Fact → Bool) (irq : Irq) (a b : ℕ) (d : Arrow) (rest : List Arrow) (l : Arrow) →
    IsInversionWith (In new) irq a b d rest l →
    IsInversionWith (In old) irq a b d rest l ⊎ HasNewEnd old new irq l ⊎
    HasNewMember old new (d ∷ rest)

-- ---- circles turn
-- a shortest circle may begin with each of its members
abbrev pub ShortestCirclesTurn : Type 0
ShortestCirclesTurn = (facts : FactParts) (front back : List Arrow) →
    IsShortestCircle (HasFact facts) (front ++ back) → IsShortestCircle (HasFact facts) (back ++ front)
