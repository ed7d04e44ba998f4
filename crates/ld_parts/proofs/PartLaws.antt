-- The law of parts: what is found in parts is what is found among all facts.
use Rattle.ld_parts.proofs.Names.{[], ◌<◌, ◌↔◌, ◌∙◌, ◌∷◌, ◌≡◌, ◌≤◌, AllPairs, AmongRank, AreFoundInPart, AreFoundInParts, AreSame, Arrow, ClosedWalk, Contains-get_or, DependenciesOf, Dependency, Fact, HasKeys, InInversion, Irq, IsCircle, IsClean, IsDouble, IsInversion, IsShortestCircle, IsShortestFrom, IsShortestInversion, List, ListsRank, Marked, NoneGoesDown, OnCircle, Renumbered, StrongWalk-members, ap, arith, arrow_at, arrow_by, cases_eq, cases_lt, fact_by, get_or, get_or-map, inl, inr, length, length-map, map, refl, slice_index, subst, sym, ℕ}
use Rattle.ld_parts.proofs.Levels.{circle_level, closed_level, double_level, in_inversion_level, inversion_level, inversion_with_level}
use Rattle.ld_parts.proofs.Renumbering.{ClosedWalk-by, InInversion-by, IsCircle-by, IsDouble-by, IsDoubleBy-by, IsInversion-by, IsInversionWith-by, OnCircle-by, place_in, place_in-stands}

-- ---- one part
module _ (Has Among : Fact → Type 0) (rank : ℕ → ℕ) (r : ℕ) (keys : List ℕ) (lists : ListsRank Has rank r keys)
    (same : AreSame Among (Renumbered Has keys)) where
  abbrev key_at : ℕ → ℕ
  key_at = slice_index keys

  abbrev place : ℕ → ℕ
  place = place_in keys

  -- the part's facts are facts of the keys, and the facts of its rank are in the part
  pub up : (x : Fact) → Among x → Has (fact_by key_at x)
  up x h = ((same x).0 h).1

  listed_down : (x : Fact) → HasKeys keys x → Has x → Among (fact_by place x)
  listed_down (Dependency from to kind) in_list has =
      let (i, from_is) = place_in-stands keys from in_list.0.0 in_list.0.1 in_list.0.2 in
      let (j, to_is) = place_in-stands keys to in_list.1.0 in_list.1.1 in_list.1.2 in
      (same (Dependency (place from) (place to) kind)).1 (
        (i, j),
        subst (λ a. Has (Dependency a (key_at (place to)) kind)) (sym from_is)
            (subst (λ b. Has (Dependency from b kind)) (sym to_is) has),
      )
  listed_down (Marked key mark) in_list has =
      let (i, is) = place_in-stands keys key in_list.0 in_list.1 in_list.2 in
      (same (Marked (place key) mark)).1 (i, subst (λ a. Has (Marked a mark)) (sym is) has)

  pub down : (s : ℕ) → s ≡ r → (x : Fact) → AmongRank Has rank s x → Among (fact_by place x)
  down s at x h = listed_down x (lists.all x (subst (λ t. AmongRank Has rank t x) at h)) h.0

  -- ---- keys and places
  same_place : (i j : ℕ) → i < length keys → j < length keys → key_at i ≡ key_at j → i ≡ j
  same_place i j li lj e =
      elim (cases_eq i j) [
        | inl is ↦ is
        | inr ne ↦ elim (cases_lt i j) [
          | inl less ↦ absurd (lists.once i j 0 less lj e)
          | inr more ↦ absurd (lists.once j i 0 (omega arith) li (sym e))
        ]
      ]

  place_again : (i : ℕ) → i < length keys → place (key_at i) ≡ i
  place_again i l =
      let (k, lk, e) = Contains-get_or keys i 0 l in
      let (below, is) = place_in-stands keys (key_at i) k lk e in
      same_place (place (key_at i)) i below l is

  arrow_again : (d : Arrow) → d.start < length keys → d.end < length keys → arrow_by place (arrow_at keys d) ≡ d
  arrow_again d ls le = λ i. record { start = place_again d.start ls i; end = place_again d.end le i; kind = d.kind }

  arrow_below : (d : Arrow) → DependenciesOf Among d → (d.start < length keys) × (d.end < length keys)
  arrow_below d h = ((same (Dependency d.start d.end d.kind)).0 h).0

  -- the facts of the rank of the key at a place are in the part
  abbrev Level : ℕ → Fact → Type 0
  Level i = AmongRank Has rank (rank (key_at i))

  back : (i : ℕ) → i < length keys → (x : Fact) → Level i x → Among (fact_by place x)
  back i l = down (rank (key_at i)) (lists.of_rank (key_at i) (Contains-get_or keys i 0 l))

  -- no key of a circle is the start of two: no place is
  starts_below : (circle : List Arrow) → IsCircle Among circle → (k : ℕ) (d : Arrow) → k < length circle → (get_or circle k d).start < length keys
  starts_below [] no_walk k d l = absurd no_walk
  starts_below (a ∷ rest) closed k d l =
      (arrow_below (get_or (a ∷ rest) k d) (StrongWalk-members (DependenciesOf Among) a rest closed.0 k d l)).0

  pub apart : (circle : List Arrow) → IsCircle Among circle →
      AllPairs (λ a b. ¬ (a.start ≡ b.start)) circle → AllPairs (λ a b. ¬ (a.start ≡ b.start)) (map (arrow_at keys) circle)
  apart circle closed pairs i j d less l e =
      let long = length-map circle (arrow_at keys) in
      let lj : j < length circle = omega arith in
      let li : i < length circle = omega arith in
      let at_i = ap (λ (a : Arrow). a.start) (get_or-map (arrow_at keys) circle i d d li) in
      let at_j = ap (λ (a : Arrow). a.start) (get_or-map (arrow_at keys) circle j d d lj) in
      pairs i j d less lj (same_place (get_or circle i d).start (get_or circle j d).start
      (starts_below circle closed i d li) (starts_below circle closed j d lj) (sym at_i ∙ e ∙ at_j))

  module _ (none : NoneGoesDown Has rank) where
    -- ---- circles
    on_circle : (d : Arrow) → d.start < length keys → d.end < length keys → OnCircle Has (arrow_at keys d) ↔ OnCircle Among d
    on_circle d ls le = (
      (λ on. subst (OnCircle Among) (arrow_again d ls le)
          (OnCircle-by place (Level d.start) Among (back d.start ls) (arrow_at keys d) (circle_level Has rank none (arrow_at keys d) on).1)),
      OnCircle-by key_at Among Has up d,
    )

    shortest_from : (d : Arrow) (walk : List Arrow) → IsShortestFrom Among d walk →
        IsShortestFrom Has (arrow_at keys d) (map (arrow_at keys) walk)
    shortest_from d walk shortest =
        let (ls, le) = arrow_below d (StrongWalk-members (DependenciesOf Among) d shortest.rest shortest.closed.0 0 d (omega arith)) in record {
          rest = map (arrow_at keys) shortest.rest;
          walk_is = ap (map (arrow_at keys)) shortest.walk_is;
          closed = ClosedWalk-by key_at Among Has up d shortest.rest shortest.closed;
          least = λ other is.
              let few = shortest.least (map (arrow_by place) other)
              (subst (λ a. ClosedWalk (DependenciesOf Among) a (map (arrow_by place) other)) (arrow_again d ls le)
              (ClosedWalk-by place (Level d.start) Among (back d.start ls) (arrow_at keys d) other (closed_level Has rank none (arrow_at keys d) other is))) in
              omega (arith, length-map shortest.rest (arrow_at keys), length-map other (arrow_by place));
        }

    -- ---- doubles and inversions
    double : (irq : Irq) (a : ℕ) → a < length keys → IsDouble Has irq (key_at a) ↔ IsDouble Among irq a
    double irq a l = (
      (λ is. subst (IsDouble Among irq) (place_again a l)
          (IsDouble-by place (Level a) Among (back a l) irq (key_at a) (double_level Has rank irq (key_at a) is))),
      IsDouble-by key_at Among Has up irq a,
    )

    inversion : (irq : Irq) (a b : ℕ) → a < length keys → b < length keys →
        IsInversion Has irq (key_at a) (key_at b) ↔ IsInversion Among irq a b
    inversion irq a b la lb = (
      (λ is. rw (place_again a la, place_again b lb) at
          (IsInversion-by place (Level a) Among (back a la) irq (key_at a) (key_at b) (inversion_level Has rank none irq (key_at a) (key_at b) is).1)),
      IsInversion-by key_at Among Has up irq a b,
    )

    shortest_inversion : (irq : Irq) (a b : ℕ) (l : Arrow) (walk : List Arrow) → IsShortestInversion Among irq a b l walk →
        IsShortestInversion Has irq (key_at a) (key_at b) (arrow_at keys l) (map (arrow_at keys) walk)
    shortest_inversion irq a b l walk shortest =
        let (w, link, at_b, to_a, closes, starts) = shortest.closed in
        let la : a < length keys = subst (λ i. i < length keys) to_a ((same _).0 link.1).0 in
        let lb : b < length keys = subst (λ j. j < length keys) at_b ((same _).0 link.0).0 in record {
          first = arrow_at keys shortest.first;
          rest = map (arrow_at keys) shortest.rest;
          walk_is = ap (map (arrow_at keys)) shortest.walk_is;
          closed = IsInversionWith-by key_at Among Has up irq a b shortest.first shortest.rest l shortest.closed;
          least = λ d other m with.
              let by = arrow_by place in
              let few = shortest.least (by d) (map by other) (by m)
              (rw (place_again a la, place_again b lb) at
              (IsInversionWith-by place (Level a) Among (back a la) irq (key_at a) (key_at b) d other m
              (inversion_with_level Has rank none irq (key_at a) (key_at b) d other m with).1)) in
              omega (arith, length-map shortest.rest (arrow_at keys), length-map other by);
        }

    in_inversion : (d : Arrow) → d.start < length keys → d.end < length keys → InInversion Has (arrow_at keys d) ↔ InInversion Among d
    in_inversion d ls le = (
      (λ in_one. subst (InInversion Among) (arrow_again d ls le)
          (InInversion-by place (Level d.start) Among (back d.start ls) (arrow_at keys d) (in_inversion_level Has rank none (arrow_at keys d) in_one).1)),
      InInversion-by key_at Among Has up d,
    )

    pub are_found_in_part : AreFoundInPart Has Among keys
    are_found_in_part = record {
      on_circle = on_circle;
      shortest_from = shortest_from;
      double = double;
      double_by = IsDoubleBy-by key_at Among Has up;
      inversion = inversion;
      shortest_inversion = shortest_inversion;
      in_inversion = in_inversion;
    }

-- ---- all parts
module _ (Has : Fact → Type 0) (rank : ℕ → ℕ) (keys : ℕ → List ℕ) (none : NoneGoesDown Has rank)
    (lists : (r : ℕ) → ListsRank Has rank r (keys r)) where
  abbrev Part : ℕ → Fact → Type 0
  Part r = Renumbered Has (keys r)

  itself : (r : ℕ) → AreSame (Part r) (Part r)
  itself r x = ((λ h. h), (λ h. h))

  from : (r : ℕ) → (x : Fact) → Part r x → Has (fact_by (slice_index (keys r)) x)
  from r = up Has (Part r) rank r (keys r) (lists r) (itself r)

  into : (r : ℕ) → (x : Fact) → AmongRank Has rank r x → Part r (fact_by (place_in (keys r)) x)
  into r = down Has (Part r) rank r (keys r) (lists r) (itself r) r refl

  -- each circle is as long as one of some part
  pub circle_placed : (circle : List Arrow) → IsCircle Has circle →
      (r : ℕ) × (placed : List Arrow) × IsCircle (Part r) placed × (length placed ≡ length circle)
  circle_placed [] no_walk = absurd no_walk
  circle_placed (a ∷ rest) closed =
      let r = rank a.start in
      let by = arrow_by (place_in (keys r)) in
      (r, map by (a ∷ rest), ClosedWalk-by (place_in (keys r)) (AmongRank Has rank r) (Part r) (into r) a rest (closed_level Has rank none a rest closed), length-map (a ∷ rest) by)

  shortest_circle : (r : ℕ) (circle : List Arrow) → IsShortestCircle (Part r) circle →
      ((s : ℕ) (other : List Arrow) → IsCircle (Part s) other → length circle ≤ length other) →
      IsShortestCircle Has (map (arrow_at (keys r)) circle)
  shortest_circle r circle shortest least = record {
    closed = IsCircle-by (slice_index (keys r)) (Part r) Has (from r) circle shortest.closed;
    least = λ other is.
        let (s, placed, closed, long) = circle_placed other is in
        let few = least s placed closed in
        omega (arith, length-map circle (arrow_at (keys r)));
    once = apart Has (Part r) rank r (keys r) (lists r) (itself r) circle shortest.closed shortest.once;
  }

  clean : IsClean Has ↔ ((r : ℕ) → IsClean (Part r))
  clean = (
    (λ all r. record {
      circles = λ d on. all.circles (arrow_at (keys r) d) (OnCircle-by (slice_index (keys r)) (Part r) Has (from r) d on);
      doubles = λ irq a is. all.doubles irq (slice_index (keys r) a) (IsDouble-by (slice_index (keys r)) (Part r) Has (from r) irq a is);
      inversions = λ irq a b is. all.inversions irq (slice_index (keys r) a) (slice_index (keys r) b)
          (IsInversion-by (slice_index (keys r)) (Part r) Has (from r) irq a b is);
    }),
    (λ each. record {
      circles = λ d on. let r = rank d.start in (each r).circles (arrow_by (place_in (keys r)) d)
          (OnCircle-by (place_in (keys r)) (AmongRank Has rank r) (Part r) (into r) d (circle_level Has rank none d on).1);
      doubles = λ irq a is. let r = rank a in (each r).doubles irq (place_in (keys r) a)
          (IsDouble-by (place_in (keys r)) (AmongRank Has rank r) (Part r) (into r) irq a (double_level Has rank irq a is));
      inversions = λ irq a b is. let r = rank a in (each r).inversions irq (place_in (keys r) a) (place_in (keys r) b)
          (IsInversion-by (place_in (keys r)) (AmongRank Has rank r) (Part r) (into r) irq a b (inversion_level Has rank none irq a b is).1);
    }),
  )

  pub are_found_in_parts : AreFoundInParts Has rank keys
  are_found_in_parts = record {
    each = λ r. are_found_in_part Has (Part r) rank r (keys r) (lists r) (itself r) none;
    on_circle = λ d on. (circle_level Has rank none d on).0;
    inversion = λ irq a b is. (inversion_level Has rank none irq a b is).0;
    in_inversion = λ d in_one. (in_inversion_level Has rank none d in_one).0;
    shortest_circle = shortest_circle;
    clean = clean;
  }
