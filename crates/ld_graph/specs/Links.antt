-- Links that interrupts make between keys, and the faults of usage
-- ["Single-lock state rules", "Multi-lock dependency rules"; the read forms are this project's own].
use Rattle.std.specs.Prelude.{◌≡◌, ℕ, ◌≤◌, Bool, List, ◌∷◌, length, Contains}
use Rattle.ld_trace.specs.declared.event.Irq.{Irq}
use Rattle.ld_task.specs.declared.mark.Mark.TheVariants.{UsedIn, Enabled}
use Rattle.ld_task.specs.Kinds.{is_s, is_r, kind_of_letters}
use Rattle.ld_facts.specs.Arrows.{Arrow, MayFollow, arrow}
use Rattle.ld_facts.specs.Facts.{DependenciesOf}
use Rattle.ld_graph.specs.Walks.{last, WalksTo, OnCircle}
use Rattle.ld_facts.specs.declared.fact.Fact.{Fact}
use Rattle.ld_facts.specs.declared.fact.Fact.TheVariants.{Marked}

-- l is an interrupt link of the state: from a key that is used with it enabled to a key that is used in it.
-- Its first letter is S for the read form of the one mark, its second R for the read form of the other
abbrev pub IsLink : (Fact → Type 0) → Irq → Arrow → Type 0
IsLink Has irq l =
    Has (Marked l.start (Enabled irq (is_s l.kind))) × Has (Marked l.end (UsedIn irq (is_r l.kind)))

-- a is a double by this link, which leads from it to itself and may follow itself
abbrev pub IsDoubleBy : (Fact → Type 0) → Irq → ℕ → Arrow → Type 0
IsDoubleBy Has irq a l = IsLink Has irq l × (l.start ≡ a) × (l.end ≡ a) × MayFollow l l

abbrev pub IsDouble : (Fact → Type 0) → Irq → ℕ → Type 0
IsDouble Has irq a = (l : Arrow) × IsDoubleBy Has irq a l

-- a and b are an inversion by this strong walk from a to b and this link from b to a, each of which may follow the other
abbrev pub IsInversionWith : (Fact → Type 0) → Irq → ℕ → ℕ → Arrow → List Arrow → Arrow → Type 0
IsInversionWith Has irq a b d rest l =
    WalksTo (DependenciesOf Has) a b d rest × IsLink Has irq l × (l.start ≡ b) × (l.end ≡ a) ×
    MayFollow (last d rest) l × MayFollow l d

abbrev pub IsInversion : (Fact → Type 0) → Irq → ℕ → ℕ → Type 0
IsInversion Has irq a b = (d : Arrow) × (rest : List Arrow) × (l : Arrow) ×
    IsInversionWith Has irq a b d rest l

-- ---- the walks of inversions
-- d is a member of the walk of some inversion
abbrev pub InInversion : (Fact → Type 0) → Arrow → Type 0
InInversion Has d = (irq : Irq) × (a b : ℕ) × (first : Arrow) × (rest : List Arrow) × (l : Arrow) ×
    IsInversionWith Has irq a b first rest l × Contains (first ∷ rest) d

-- the arrow from b to a by the forms of two marks: that b is used with a state enabled, and that a is used in it
abbrev pub link_by : (b a : ℕ) → (enabled_read used_read : Bool) → Arrow
link_by b a enabled_read used_read = arrow b a (kind_of_letters enabled_read used_read)

-- a and b are an inversion by the walk and the link l, and no walk of an inversion of theirs, by any link, is shorter
pub record IsShortestInversion (Has : Fact → Type 0) (irq : Irq) (a b : ℕ) (l : Arrow) (walk : List Arrow) :
    Type 0 where
  pub first : Arrow
  pub rest : List Arrow
  pub walk_is : walk ≡ first ∷ rest
  pub closed : IsInversionWith Has irq a b first rest l
  pub least : (d : Arrow) (other : List Arrow) (m : Arrow) → IsInversionWith Has irq a b d other m →
      length rest ≤ length other

-- ---- nothing wrong
-- no dependency on a circle, no double and no inversion
pub record IsClean (Has : Fact → Type 0) : Type 0 where
  pub circles : (d : Arrow) → ¬ OnCircle Has d
  pub doubles : (irq : Irq) (a : ℕ) → ¬ IsDouble Has irq a
  pub inversions : (irq : Irq) (a b : ℕ) → ¬ IsInversion Has irq a b
