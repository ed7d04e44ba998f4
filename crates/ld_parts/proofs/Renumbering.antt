-- Facts with their keys replaced, and what is found among them; a key's place in a list.
use Rattle.ld_parts.proofs.Names.{[], ◌<◌, ◌==◌, ◌∙◌, ◌∷◌, ◌≡◌, Arrow, Bool, ClosedWalk, Contains, DependenciesOf, Dependency, Enabled, Fact, InInversion, Irq, IsAtPlace, IsCircle, IsDouble, IsDoubleBy, IsInversion, IsInversionWith, IsLink, List, Marked, MayFollow, OnCircle, StrongWalk, UsedIn, ap, arith, arrow_by, cases_eq, eq-eqb, fact_by, get_or, get_or-map, if◌then◌else◌, inl, inr, is_r, is_s, last, length, length-map, map, ne_eqb, refl, subst, suc, sym, zero, ℕ}

-- ---- facts with their keys replaced
module _ (other : ℕ → ℕ) where
  last-by : (a : Arrow) (rest : List Arrow) →
      last (arrow_by other a) (map (arrow_by other) rest) ≡ arrow_by other (last a rest)
  last-by a [] = refl
  last-by a (b ∷ rest) = last-by b rest

  Contains-by : (xs : List Arrow) (d : Arrow) → Contains xs d → Contains (map (arrow_by other) xs) (arrow_by other d)
  Contains-by xs d (k, l, e) =
      let same = length-map xs (arrow_by other) in
      (k, omega arith, get_or-map (arrow_by other) xs k d (arrow_by other d) l ∙ ap (arrow_by other) e)

  -- walks and links go with the facts
  module _ (P Q : Fact → Type 0) (go : (x : Fact) → P x → Q (fact_by other x)) where
    StrongWalk-by : (a : Arrow) (rest : List Arrow) → StrongWalk (DependenciesOf P) a rest →
        StrongWalk (DependenciesOf Q) (arrow_by other a) (map (arrow_by other) rest)
    StrongWalk-by a [] w = go (Dependency a.start a.end a.kind) w
    StrongWalk-by a (b ∷ rest) w =
        (go (Dependency a.start a.end a.kind) w.0, (ap other w.1.0, w.1.1), StrongWalk-by b rest w.2)

    pub ClosedWalk-by : (a : Arrow) (rest : List Arrow) → ClosedWalk (DependenciesOf P) a rest →
        ClosedWalk (DependenciesOf Q) (arrow_by other a) (map (arrow_by other) rest)
    ClosedWalk-by a rest (w, m) = (
      StrongWalk-by a rest w,
      subst (λ z. MayFollow z (arrow_by other a)) (sym (last-by a rest)) (ap other m.0, m.1),
    )

    pub IsCircle-by : (circle : List Arrow) → IsCircle P circle → IsCircle Q (map (arrow_by other) circle)
    IsCircle-by [] no_walk = no_walk
    IsCircle-by (a ∷ rest) closed = ClosedWalk-by a rest closed

    pub OnCircle-by : (d : Arrow) → OnCircle P d → OnCircle Q (arrow_by other d)
    OnCircle-by d (a, rest, closed, met) =
        (arrow_by other a, map (arrow_by other) rest, ClosedWalk-by a rest closed, Contains-by (a ∷ rest) d met)

    IsLink-by : (irq : Irq) (l : Arrow) → IsLink P irq l → IsLink Q irq (arrow_by other l)
    IsLink-by irq l marks = (
      go (Marked l.start (Enabled irq (is_s l.kind))) marks.0,
      go (Marked l.end (UsedIn irq (is_r l.kind))) marks.1,
    )

    pub IsDoubleBy-by : (irq : Irq) (a : ℕ) (l : Arrow) → IsDoubleBy P irq a l →
        IsDoubleBy Q irq (other a) (arrow_by other l)
    IsDoubleBy-by irq a l (link, at_a, to_a, follows) =
        (IsLink-by irq l link, ap other at_a, ap other to_a, (ap other follows.0, follows.1))

    pub IsDouble-by : (irq : Irq) (a : ℕ) → IsDouble P irq a → IsDouble Q irq (other a)
    IsDouble-by irq a (l, by) = (arrow_by other l, IsDoubleBy-by irq a l by)

    pub IsInversionWith-by : (irq : Irq) (a b : ℕ) (d : Arrow) (rest : List Arrow) (l : Arrow) →
        IsInversionWith P irq a b d rest l →
        IsInversionWith Q irq (other a) (other b) (arrow_by other d) (map (arrow_by other) rest) (arrow_by other l)
    IsInversionWith-by irq a b d rest l (w, link, at_b, to_a, closes, starts) =
        let end = last-by d rest in (
          (StrongWalk-by d rest w.0, ap other w.1, ap (λ (z : Arrow). z.end) end ∙ ap other w.2),
          IsLink-by irq l link,
          ap other at_b,
          ap other to_a,
          subst (λ z. MayFollow z (arrow_by other l)) (sym end) (ap other closes.0, closes.1),
          (ap other starts.0, starts.1),
        )

    pub IsInversion-by : (irq : Irq) (a b : ℕ) → IsInversion P irq a b → IsInversion Q irq (other a) (other b)
    IsInversion-by irq a b (d, rest, l, with) =
        (arrow_by other d, map (arrow_by other) rest, arrow_by other l, IsInversionWith-by irq a b d rest l with)

    pub InInversion-by : (d : Arrow) → InInversion P d → InInversion Q (arrow_by other d)
    InInversion-by d (irq, a, b, first, rest, l, with, met) = (
      irq,
      other a,
      other b,
      arrow_by other first,
      map (arrow_by other) rest,
      arrow_by other l,
      IsInversionWith-by irq a b first rest l with,
      Contains-by (first ∷ rest) d met,
    )

-- ---- a key's place
abbrev pub place_in : List ℕ → ℕ → ℕ
place_in [] key = 0
place_in (x ∷ keys) key = if x == key then 0 else suc (place_in keys key)

-- a key of the list is there
pub place_in-stands : (keys : List ℕ) (key k : ℕ) → k < length keys → get_or keys k key ≡ key → IsAtPlace keys key (place_in keys key)
place_in-stands [] key k l e = absurd (omega arith)
place_in-stands (x ∷ keys) key zero l e =
    subst (λ (b : Bool). IsAtPlace (x ∷ keys) key (if b then 0 else suc (place_in keys key))) (sym (eq-eqb x key e)) (omega arith, e)
place_in-stands (x ∷ keys) key (suc k) l e =
    elim (cases_eq x key) [
      | inl same ↦ subst (λ (b : Bool). IsAtPlace (x ∷ keys) key (if b then 0 else suc (place_in keys key))) (sym (eq-eqb x key same)) (omega arith, same)
      | inr ne ↦
          let there : IsAtPlace keys key (place_in keys key) = place_in-stands keys key k (omega arith) e in
          subst (λ (b : Bool). IsAtPlace (x ∷ keys) key (if b then 0 else suc (place_in keys key))) (sym (ne_eqb x key ne)) (omega arith, there.1)
    ]
