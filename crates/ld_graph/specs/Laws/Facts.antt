-- Laws of sets of facts that the proofs of the crates above cite.
use Rattle.std.specs.Prelude.{ℕ, zero, suc, ◌↔◌, List, [], ◌∷◌, All}
use Rattle.std.proofs.Common.{arith}
use Rattle.std.proofs.lemmas.List.Elements.{All-contains}
use Rattle.ld_trace.specs.declared.event.Irq.{Irq}
use Rattle.ld_task.specs.declared.mark.Mark.TheVariants.{UsedIn, Enabled}
use Rattle.ld_task.specs.Kinds.{is_s, is_r}
use Rattle.ld_facts.specs.Arrows.{Arrow}
use Rattle.ld_facts.specs.Facts.{AreSame, Holds, DependenciesOf}
use Rattle.ld_graph.specs.Links.{IsLink, IsDouble, IsDoubleBy, IsInversion, IsInversionWith, InInversion, IsShortestInversion, IsClean}
use Rattle.ld_graph.specs.Walks.{StrongWalk, OnCircle, IsCircle, IsShortestCircle, IsShortestFrom}
use Rattle.ld_facts.specs.declared.fact.Fact.{Fact}
use Rattle.ld_facts.specs.declared.fact.Fact.TheVariants.{Dependency, Marked}

-- ---- the members of a strong walk
-- each is one of the arrows
pub StrongWalk-members : (In : Arrow → Type 0) (a : Arrow) (rest : List Arrow) → StrongWalk In a rest →
    All In (a ∷ rest)
StrongWalk-members In a [] w zero d l = w
StrongWalk-members In a [] w (suc i) d l = absurd (omega arith)
StrongWalk-members In a (b ∷ rest) w zero d l = w.0
StrongWalk-members In a (b ∷ rest) w (suc i) d l = StrongWalk-members In b rest w.2 i d (omega arith)

-- what is on a circle is one of the arrows
pub OnCircle-member : (Has : Fact → Type 0) (d : Arrow) → OnCircle Has d → DependenciesOf Has d
OnCircle-member Has d (a, rest, w, c) =
    All-contains (DependenciesOf Has) (a ∷ rest) d (StrongWalk-members (DependenciesOf Has) a rest w.0) c

-- ---- a larger set
pub StrongWalk-more : (P Q : Arrow → Type 0) → ((x : Arrow) → P x → Q x) →
    (a : Arrow) (rest : List Arrow) → StrongWalk P a rest → StrongWalk Q a rest
StrongWalk-more P Q up a [] w = up a w
StrongWalk-more P Q up a (b ∷ rest) w = (up a w.0, w.1, StrongWalk-more P Q up b rest w.2)

module _ (P Q : Fact → Type 0) (up : Holds Q P) where
  walk : (a : Arrow) (rest : List Arrow) → StrongWalk (DependenciesOf P) a rest → StrongWalk (DependenciesOf Q) a rest
  walk = StrongWalk-more (DependenciesOf P) (DependenciesOf Q) (λ d. up (Dependency d.start d.end d.kind))

  pub IsCircle-more : (circle : List Arrow) → IsCircle P circle → IsCircle Q circle
  IsCircle-more [] no_walk = no_walk
  IsCircle-more (a ∷ rest) closed = (walk a rest closed.0, closed.1)

  link : (irq : Irq) (l : Arrow) → IsLink P irq l → IsLink Q irq l
  link irq l marks = (
    up (Marked l.start (Enabled irq (is_s l.kind))) marks.0,
    up (Marked l.end (UsedIn irq (is_r l.kind))) marks.1,
  )

  pub OnCircle-more : (d : Arrow) → OnCircle P d → OnCircle Q d
  OnCircle-more d (a, rest, w, c) = (a, rest, (walk a rest w.0, w.1), c)

  pub IsDoubleBy-more : (irq : Irq) (a : ℕ) (l : Arrow) → IsDoubleBy P irq a l → IsDoubleBy Q irq a l
  IsDoubleBy-more irq a l by = (link irq l by.0, by.1, by.2, by.3)

  pub IsDouble-more : (irq : Irq) (a : ℕ) → IsDouble P irq a → IsDouble Q irq a
  IsDouble-more irq a (l, by) = (l, IsDoubleBy-more irq a l by)

  pub IsInversionWith-more : (irq : Irq) (a b : ℕ) (d : Arrow) (rest : List Arrow) (l : Arrow) →
      IsInversionWith P irq a b d rest l → IsInversionWith Q irq a b d rest l
  IsInversionWith-more irq a b d rest l with =
      ((walk d rest with.0.0, with.0.1, with.0.2), link irq l with.1, with.2, with.3, with.4, with.5)

  pub IsInversion-more : (irq : Irq) (a b : ℕ) → IsInversion P irq a b → IsInversion Q irq a b
  IsInversion-more irq a b (d, rest, l, with) = (d, rest, l, IsInversionWith-more irq a b d rest l with)

  pub InInversion-more : (d : Arrow) → InInversion P d → InInversion Q d
  InInversion-more d (irq, a, b, first, rest, l, with, met) =
      (irq, a, b, first, rest, l, IsInversionWith-more irq a b first rest l with, met)

  -- clean facts have no unclean ones among them
  pub IsClean-fewer : IsClean Q → IsClean P
  IsClean-fewer clean = record {
    circles = λ d on. clean.circles d (OnCircle-more d on);
    doubles = λ irq a double. clean.doubles irq a (IsDouble-more irq a double);
    inversions = λ irq a b inversion. clean.inversions irq a b (IsInversion-more irq a b inversion);
  }

-- ---- the same set
module _ (P Q : Fact → Type 0) (same : AreSame P Q) where
  there : Holds Q P
  there x = (same x).0

  back : Holds P Q
  back x = (same x).1

  pub OnCircle-same : (d : Arrow) → OnCircle P d ↔ OnCircle Q d
  OnCircle-same d = (OnCircle-more P Q there d, OnCircle-more Q P back d)

  pub IsShortestCircle-same : (circle : List Arrow) → IsShortestCircle P circle → IsShortestCircle Q circle
  IsShortestCircle-same circle shortest = record {
    closed = IsCircle-more P Q there circle shortest.closed;
    least = λ other is. shortest.least other (IsCircle-more Q P back other is);
    once = shortest.once;
  }

  pub IsDouble-same : (irq : Irq) (a : ℕ) → IsDouble P irq a ↔ IsDouble Q irq a
  IsDouble-same irq a = (IsDouble-more P Q there irq a, IsDouble-more Q P back irq a)

  pub IsInversion-same : (irq : Irq) (a b : ℕ) → IsInversion P irq a b ↔ IsInversion Q irq a b
  IsInversion-same irq a b = (IsInversion-more P Q there irq a b, IsInversion-more Q P back irq a b)

  pub IsShortestFrom-same : (d : Arrow) (members : List Arrow) →
      IsShortestFrom P d members → IsShortestFrom Q d members
  IsShortestFrom-same d members shortest = record {
    rest = shortest.rest;
    walk_is = shortest.walk_is;
    closed = (walk P Q there d shortest.rest shortest.closed.0, shortest.closed.1);
    least = λ other is. shortest.least other (walk Q P back d other is.0, is.1);
  }

  pub IsDoubleBy-same : (irq : Irq) (a : ℕ) (l : Arrow) → IsDoubleBy P irq a l ↔ IsDoubleBy Q irq a l
  IsDoubleBy-same irq a l = (IsDoubleBy-more P Q there irq a l, IsDoubleBy-more Q P back irq a l)

  pub InInversion-same : (d : Arrow) → InInversion P d ↔ InInversion Q d
  InInversion-same d = (InInversion-more P Q there d, InInversion-more Q P back d)

  pub IsShortestInversion-same : (irq : Irq) (a b : ℕ) (l : Arrow) (members : List Arrow) →
      IsShortestInversion P irq a b l members → IsShortestInversion Q irq a b l members
  IsShortestInversion-same irq a b l members shortest = record {
    first = shortest.first;
    rest = shortest.rest;
    walk_is = shortest.walk_is;
    closed = IsInversionWith-more P Q there irq a b shortest.first shortest.rest l shortest.closed;
    least = λ d other m with. shortest.least d other m (IsInversionWith-more Q P back irq a b d other m with);
  }

  pub IsClean-same : IsClean P ↔ IsClean Q
  IsClean-same = (IsClean-fewer Q P back, IsClean-fewer P Q there)
