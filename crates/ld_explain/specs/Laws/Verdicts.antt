-- What holds of circles where keys have other names.
use Rattle.std.specs.Prelude.{[], ◌∷◌, ◌≡◌, List, map, ℕ}
use Rattle.ld_explain.specs.Names.{Arrow, DependenciesOf, Dependency, Fact, Image, MayFollow, OnCircle, StrongWalk, ap, arrow_by, last, refl, subst, sym}
use Rattle.ld_explain.specs.Laws.Lists.{Contains-map}

module _ (Has : Fact → Type 0) (rename : ℕ → ℕ) where
  walk-image : (a : Arrow) (rest : List Arrow) → StrongWalk (DependenciesOf Has) a rest →
      StrongWalk (DependenciesOf (Image rename Has)) (arrow_by rename a) (map (arrow_by rename) rest)
  walk-image a [] has = (Dependency a.start a.end a.kind, has, refl)
  walk-image a (b ∷ rest) (has, follows, more) =
      ((Dependency a.start a.end a.kind, has, refl), (ap rename follows.0, follows.1), walk-image b rest more)

  last-image : (a : Arrow) (rest : List Arrow) → last (arrow_by rename a) (map (arrow_by rename) rest) ≡ arrow_by rename (last a rest)
  last-image a [] = refl
  last-image a (b ∷ rest) = last-image b rest

  -- the image of what is on a circle is on a circle of the image
  pub OnCircle-image : (d : Arrow) → OnCircle Has d → OnCircle (Image rename Has) (arrow_by rename d)
  OnCircle-image d (a, rest, (walk, follows), member) = (
    arrow_by rename a,
    map (arrow_by rename) rest,
    (walk-image a rest walk, subst (λ l. MayFollow l (arrow_by rename a)) (sym (last-image a rest)) (ap rename follows.0, follows.1)),
    Contains-map (arrow_by rename) (a ∷ rest) d member,
  )
