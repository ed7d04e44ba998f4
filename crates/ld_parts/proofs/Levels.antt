-- Walks and inversions keep to one rank: no arrow goes down, so none of theirs goes up.
use Rattle.ld_parts.proofs.Names.{[], ◌∙◌, ◌∷◌, ◌≡◌, ◌≤◌, AmongRank, Arrow, ClosedWalk, Contains, DependenciesOf, Fact, InInversion, Irq, IsDouble, IsInversion, IsInversionWith, List, NoneGoesDown, OnCircle, StrongWalk, StrongWalk-members, ap, arith, last, subst, sym, ℕ}

module _ (Has : Fact → Type 0) (rank : ℕ → ℕ) where
  -- a double has one key, so it is of that key's rank whatever the ranks are
  pub double_level : (irq : Irq) (a : ℕ) → IsDouble Has irq a → IsDouble (AmongRank Has rank (rank a)) irq a
  double_level irq a (l, (link, at_a, to_a, follows)) =
      (l, (((link.0, ap rank at_a), (link.1, ap rank to_a)), at_a, to_a, follows))

  module _ (none : NoneGoesDown Has rank) where
    -- ---- walks
    -- a strong walk ends no lower than it begins
    climbs : (a : Arrow) (rest : List Arrow) → StrongWalk (DependenciesOf Has) a rest →
        rank a.start ≤ rank (last a rest).end
    climbs a [] w = none.dependencies a w
    climbs a (b ∷ rest) w =
        let here : rank a.start ≤ rank a.end = none.dependencies a w.0 in
        let joint : rank a.end ≡ rank b.start = ap rank w.1.0 in
        let there : rank b.start ≤ rank (last b rest).end = climbs b rest w.2 in
        omega arith

    -- one that ends no higher than it begins has one rank throughout
    level : (r : ℕ) (a : Arrow) (rest : List Arrow) → StrongWalk (DependenciesOf Has) a rest →
        r ≤ rank a.start → rank (last a rest).end ≤ r → StrongWalk (DependenciesOf (AmongRank Has rank r)) a rest
    level r a [] w low high =
        let here : rank a.start ≤ rank a.end = none.dependencies a w in
        (w, (omega arith, omega arith))
    level r a (b ∷ rest) w low high =
        let here : rank a.start ≤ rank a.end = none.dependencies a w.0 in
        let joint : rank a.end ≡ rank b.start = ap rank w.1.0 in
        let there : rank b.start ≤ rank (last b rest).end = climbs b rest w.2 in
        ((w.0, (omega arith, omega arith)), w.1, level r b rest w.2 (omega arith) high)

    pub closed_level : (a : Arrow) (rest : List Arrow) → ClosedWalk (DependenciesOf Has) a rest →
        ClosedWalk (DependenciesOf (AmongRank Has rank (rank a.start))) a rest
    closed_level a rest (w, m) =
        let back : rank (last a rest).end ≡ rank a.start = ap rank m.0 in
        (level (rank a.start) a rest w (omega arith) (omega arith), m)

    -- a member of a walk of one rank has that rank
    member_level : (r : ℕ) (a : Arrow) (rest : List Arrow) → StrongWalk (DependenciesOf (AmongRank Has rank r)) a rest →
        (d : Arrow) → Contains (a ∷ rest) d → DependenciesOf (AmongRank Has rank r) d
    member_level r a rest w d (k, l, e) =
        subst (DependenciesOf (AmongRank Has rank r)) e
        (StrongWalk-members (DependenciesOf (AmongRank Has rank r)) a rest w k d l)

    pub circle_level : (d : Arrow) → OnCircle Has d → (rank d.start ≡ rank d.end) × OnCircle (AmongRank Has rank (rank d.start)) d
    circle_level d (a, rest, closed, met) =
        let same = closed_level a rest closed in
        let at = member_level (rank a.start) a rest same.0 d met in (
          at.1.0 ∙ sym at.1.1,
          subst (λ r. OnCircle (AmongRank Has rank r) d) (sym at.1.0) (a, rest, same, met),
        )

    -- ---- inversions
    -- its walk doesn't go down, and its link doesn't
    pub inversion_with_level : (irq : Irq) (a b : ℕ) (d : Arrow) (rest : List Arrow) (l : Arrow) →
        IsInversionWith Has irq a b d rest l →
        (rank a ≡ rank b) × IsInversionWith (AmongRank Has rank (rank a)) irq a b d rest l
    inversion_with_level irq a b d rest l (w, link, at_b, to_a, closes, starts) =
        let up : rank d.start ≤ rank (last d rest).end = climbs d rest w.0 in
        let over : rank l.start ≤ rank l.end = none.links irq l link in
        let first : rank d.start ≡ rank a = ap rank w.1 in
        let end : rank (last d rest).end ≡ rank b = ap rank w.2 in
        let from : rank l.start ≡ rank b = ap rank at_b in
        let to : rank l.end ≡ rank a = ap rank to_a in
        let even : rank a ≡ rank b = omega arith in (
          even,
          (
            (level (rank a) d rest w.0 (omega arith) (omega arith), w.1, w.2),
            ((link.0, from ∙ sym even), (link.1, to)),
            at_b,
            to_a,
            closes,
            starts,
          ),
        )

    pub inversion_level : (irq : Irq) (a b : ℕ) → IsInversion Has irq a b →
        (rank a ≡ rank b) × IsInversion (AmongRank Has rank (rank a)) irq a b
    inversion_level irq a b (d, rest, l, with) =
        let (even, same) = inversion_with_level irq a b d rest l with in (even, (d, rest, l, same))

    pub in_inversion_level : (d : Arrow) → InInversion Has d →
        (rank d.start ≡ rank d.end) × InInversion (AmongRank Has rank (rank d.start)) d
    in_inversion_level d (irq, a, b, first, rest, l, with, met) =
        let same = (inversion_with_level irq a b first rest l with).1 in
        let at = member_level (rank a) first rest same.0.0 d met in (
          at.1.0 ∙ sym at.1.1,
          subst (λ r. InInversion (AmongRank Has rank r) d) (sym at.1.0) (irq, a, b, first, rest, l, same, met),
        )
