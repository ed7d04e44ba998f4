-- The parts of a parted graph: where keys are, what isn't found between parts, and what is found in all of them.
use Rattle.ld_parts.proofs.Names.{[], ◌<◌, ◌↔◌, ◌∙◌, ◌∷◌, ◌≡◌, ◌≤◌, All, AmongRank, AreApart, AreFoundInPart, AreFoundInParts, AreKeysOf, AreSame, Arrow, Contains-head, DependenciesOf, Dependency, Enabled, Fact, FactParts, HasFact, HasKeys, Home, InInversion, Irq, IsAtPlace, IsCircle, IsCircle-more, IsClean, IsClean-same, IsDouble, IsHome, IsInversion, IsPart, IsPartOf, IsParted, IsShortestCircle, IsShortestCircle-same, IsShortestOfFirst, List, ListsRank, Marked, NoneGoesDown, OnCircle, OnCircle-member, Part, Renumbered, StrongWalk-members, ap, arith, arrow, arrow_at, cases_lt, get_or, get_or-map, get_or_past, inl, inr, is_s, length, length-map, map, refl, subst, sym, ℕ}
use Rattle.ld_task.specs.declared.kind.Kind.{Kind}
use Rattle.ld_parts.proofs.Levels.{circle_level, in_inversion_level, inversion_level}
use Rattle.ld_parts.proofs.PartLaws.{are_found_in_part, are_found_in_parts, circle_placed}

-- ---- where keys are
module _ (facts : FactParts) (parts : List Part) (homes : List Home) (are : IsParted facts parts homes) where
  -- a home that was read is that of the key
  pub home_read : (xs : List Home) (n key : ℕ) (home : Home) → xs ≡ homes → n ≡ key → n < length xs →
      home ≡ get_or xs n home → IsHome are.rank parts key home
  home_read xs n key home same at l is =
      let here : get_or xs n home ≡ get_or homes key home = ap (λ v. get_or v n home) same ∙ ap (λ k. get_or homes k home) at in
      subst (IsHome are.rank parts key) (sym (is ∙ here))
      (are.homes_are.homes_are key home (let e = ap length same in omega arith))

  pub are_apart : (a b : ℕ) (of_a of_b : Home) → IsHome are.rank parts a of_a → IsHome are.rank parts b of_b →
      ¬ (of_a.part ≡ of_b.part) → AreApart facts a b
  are_apart a b of_a of_b home_a home_b differ = λ _ _. (
    are.rank,
    are.none,
    (λ same. differ (home_a.of_rank ∙ same ∙ sym home_b.of_rank)),
  )

  pub part_read : (key n : ℕ) (home : Home) (part : Part) → IsHome are.rank parts key home → n ≡ home.part →
      part ≡ get_or parts n part → IsPartOf facts part
  part_read key n home part at_home at is = (
    are.rank,
    n,
    are.none,
    subst (IsPart facts are.rank n) (sym is)
        (are.parts_are.parts_are n part (let l = at_home.within in omega arith)),
  )

  pub place_read : (key n : ℕ) (home : Home) (part : Part) → IsHome are.rank parts key home → n ≡ home.part →
      part ≡ get_or parts n part → IsAtPlace part.keys.items key home.place
  place_read key n home part at_home at is =
      subst (λ p. IsAtPlace p.keys.items key home.place) (sym (is ∙ ap (λ k. get_or parts k part) at))
      (at_home.place part)

-- ---- what isn't found between keys that are apart
module _ (facts : FactParts) (a b : ℕ) (apart : AreApart facts a b) where
  pub no_circle_apart : (kind : Kind) → ¬ OnCircle (HasFact facts) (arrow a b kind)
  no_circle_apart kind on =
      let (below, set) = OnCircle-member (HasFact facts) (arrow a b kind) on in
      let (rank, none, differ) = apart below.0 below.1 in
      differ (circle_level (HasFact facts) rank none (arrow a b kind) on).0

  pub no_inversion_apart : (irq : Irq) → ¬ IsInversion (HasFact facts) irq a b
  no_inversion_apart irq is_one =
      let (d, rest, l, with) = is_one in
      let below_a : a < facts.keys = subst (λ k. k < facts.keys) with.3 with.1.1.0 in
      let below_b : b < facts.keys = subst (λ k. k < facts.keys) with.2 with.1.0.0 in
      let (rank, none, differ) = apart below_a below_b in
      differ (inversion_level (HasFact facts) rank none irq a b is_one).0

  pub not_in_inversion_apart : (kind : Kind) → ¬ InInversion (HasFact facts) (arrow a b kind)
  not_in_inversion_apart kind in_one =
      let (irq, from, to, first, rest, l, with, (k, within, at)) = in_one in
      let (below, set) = subst (DependenciesOf (HasFact facts)) at
      (StrongWalk-members (DependenciesOf (HasFact facts)) first rest with.0.0 k (arrow a b kind) within) in
      let (rank, none, differ) = apart below.0 below.1 in
      differ (in_inversion_level (HasFact facts) rank none (arrow a b kind) in_one).0

-- a key is apart from itself only if it isn't below the bound
pub no_double_apart : (facts : FactParts) (a : ℕ) → AreApart facts a a → (irq : Irq) → ¬ IsDouble (HasFact facts) irq a
no_double_apart facts a apart irq (l, (marks, at_a, to_a, follows)) =
    let below = subst (λ k. k < facts.keys) at_a marks.0.0 in
    let (rank, none, differ) = apart below below in
    differ refl

-- ---- what is found in a part
-- the list of a rank's keys below the bound has all those that the facts are about
module _ (facts : FactParts) (rank : ℕ → ℕ) (r : ℕ) (keys : List ℕ) (are : AreKeysOf facts.keys rank r keys) where
  all_keys : (x : Fact) → AmongRank (HasFact facts) rank r x → HasKeys keys x
  all_keys (Dependency from to kind) ((below, set), (at_from, at_to)) = (are.all from below.0 at_from, are.all to below.1 at_to)
  all_keys (Marked key mark) ((below, set), at_key) = are.all key below at_key

  pub lists_rank : ListsRank (HasFact facts) rank r keys
  lists_rank = record {
    once = are.once;
    of_rank = λ key (k, l, e). subst (λ x. rank x ≡ r) e (are.of k key l).1;
    all = all_keys;
  }

pub found_in_part : (facts : FactParts) (part : Part) (rank : ℕ → ℕ) (r : ℕ) → NoneGoesDown (HasFact facts) rank →
    IsPart facts rank r part → AreFoundInPart (HasFact facts) (HasFact part.graph.facts) part.keys.items
found_in_part facts part rank r none is =
    are_found_in_part (HasFact facts) (HasFact part.graph.facts) rank r part.keys.items
    (lists_rank facts rank r part.keys.items is.keys_are) is.same none

-- ---- what is found in all parts
-- facts about nothing are clean
IsClean-none : (P : Fact → Type 0) → ((x : Fact) → ¬ P x) → IsClean P
IsClean-none P none = record {
  circles = λ d on. none (Dependency d.start d.end d.kind) (OnCircle-member P d on);
  doubles = λ irq a (l, by). none (Marked l.start (Enabled irq (is_s l.kind))) by.0.0;
  inversions = λ irq a b (d, rest, l, with). none (Marked l.start (Enabled irq (is_s l.kind))) with.1.0;
}

-- there is no circle if nothing is on one
pub no_circle : (P : Fact → Type 0) → ((d : Arrow) → ¬ OnCircle P d) → (circle : List Arrow) → ¬ IsCircle P circle
no_circle P none [] no_walk = no_walk
no_circle P none (a ∷ rest) closed = none a (a, rest, closed, Contains-head a rest)

-- at a place of a list there is a member
pub some_part : (parts : List Part) (r : ℕ) → r < length parts → Part
some_part [] r l = absurd (omega arith)
some_part (part ∷ parts) r l = part

module _ (facts : FactParts) (parts : List Part) (homes : List Home) (are : IsParted facts parts homes) where
  -- the facts of a rank have a part
  has_part : (r : ℕ) (x : Fact) → AmongRank (HasFact facts) are.rank r x → r < length parts
  has_part r (Dependency from to kind) ((below, set), (at_from, at_to)) =
      let l = are.parts_are.all from below.0 in omega arith
  has_part r (Marked key mark) ((below, set), at_key) =
      let l = are.parts_are.all key below in omega arith

  -- the keys of each rank, and none where there is no part
  abbrev listed : ℕ → List ℕ
  listed r = get_or (map (λ (part : Part). part.keys.items) parts) r []

  listed_part : (r : ℕ) (part : Part) → r < length parts → listed r ≡ (get_or parts r part).keys.items
  listed_part r part l = get_or-map (λ (p : Part). p.keys.items) parts r part [] l

  listed_none : (r : ℕ) → length parts ≤ r → listed r ≡ []
  listed_none r past = get_or_past (map (λ (p : Part). p.keys.items) parts) r [] (omega (arith, length-map parts (λ (p : Part). p.keys.items)))

  lists : (r : ℕ) → ListsRank (HasFact facts) are.rank r (listed r)
  lists r = elim (cases_lt r (length parts)) [
    | inl l ↦
        let part = some_part parts r l in
        rw (listed_part r part l) (lists_rank facts are.rank r (get_or parts r part).keys.items (are.parts_are.parts_are r part l).keys_are)
    | inr past ↦ rw (listed_none r past) record {
      once = λ i j d less l. absurd (omega arith);
      of_rank = λ key (k, l, e). absurd (omega arith);
      all = λ x among. absurd (let l = has_part r x among in omega arith);
    }
  ]

  abbrev Among : ℕ → Fact → Type 0
  Among r = Renumbered (HasFact facts) (listed r)

  found : AreFoundInParts (HasFact facts) are.rank listed
  found = are_found_in_parts (HasFact facts) are.rank listed are.none lists

  same_in_part : (r : ℕ) (part : Part) → r < length parts → AreSame (HasFact (get_or parts r part).graph.facts) (Among r)
  same_in_part r part l = rw (listed_part r part l) (are.parts_are.parts_are r part l).same

  none_past : (r : ℕ) → length parts ≤ r → (x : Fact) → ¬ Among r x
  none_past r past (Dependency from to kind) h =
      let l = h.0.0 in omega (arith, ap length (listed_none r past))
  none_past r past (Marked key mark) h =
      let l = h.0 in omega (arith, ap length (listed_none r past))

  pub clean_parts : All (λ part. IsClean (HasFact part.graph.facts)) parts ↔ IsClean (HasFact facts)
  clean_parts = (
    (λ each. found.clean.1 (λ r. elim (cases_lt r (length parts)) [
      | inl l ↦
          let part = some_part parts r l in
          (IsClean-same (HasFact (get_or parts r part).graph.facts) (Among r) (same_in_part r part l)).0 (each r part l)
      | inr past ↦ IsClean-none (Among r) (none_past r past)
    ])),
    (λ clean r part l. (IsClean-same (HasFact (get_or parts r part).graph.facts) (Among r) (same_in_part r part l)).1 (found.clean.0 clean r)),
  )

  -- a circle by places is one of the part there
  circle_in_part : (r : ℕ) (circle : List Arrow) → IsCircle (Among r) circle →
      (l : r < length parts) × ((part : Part) → IsCircle (HasFact (get_or parts r part).graph.facts) circle)
  circle_in_part r [] no_walk = absurd no_walk
  circle_in_part r (a ∷ rest) closed = elim (cases_lt r (length parts)) [
    | inl l ↦ (l, λ part. IsCircle-more (Among r) (HasFact (get_or parts r part).graph.facts) (λ x. (same_in_part r part l x).1) (a ∷ rest) closed)
    | inr past ↦ absurd (none_past r past (Dependency a.start a.end a.kind) (StrongWalk-members (DependenciesOf (Among r)) a rest closed.0 0 a (omega arith)))
  ]

  -- a dependency on a circle is on one of which a part has as long a one
  pub on_circle_parts : (d : Arrow) → OnCircle (HasFact facts) d →
      All (λ part. (e : Arrow) → ¬ OnCircle (HasFact part.graph.facts) e) parts → ⊥
  on_circle_parts d (a, rest, closed, met) none =
      let (r, placed, of_rank, long) = circle_placed (HasFact facts) are.rank listed are.none lists (a ∷ rest) closed in
      let (l, of_part) = circle_in_part r placed of_rank in
      let part = some_part parts r l in
      no_circle (HasFact (get_or parts r part).graph.facts) (none r part l) placed (of_part part)

  pub shortest_of_parts : (circle : List Arrow) → IsShortestOfFirst parts (length parts) circle → IsShortestCircle (HasFact facts) circle
  shortest_of_parts circle first =
      let part = some_part parts first.r first.before in
      let of_part = first.of part in
      let long : length circle ≡ length of_part.own = ap length of_part.renumbered ∙ length-map of_part.own (arrow_at (get_or parts first.r part).keys.items) in
      rw (of_part.renumbered, ← listed_part first.r part first.before) (found.shortest_circle first.r of_part.own
      (IsShortestCircle-same (HasFact (get_or parts first.r part).graph.facts) (Among first.r) (same_in_part first.r part first.before) of_part.own of_part.shortest)
      (λ s other closed.
      let (l, of_part) = circle_in_part s other closed in
      let other_part = some_part parts s l in
      let least = first.least s other_part other l (of_part other_part) in
      omega arith))

  pub shortest_few : (circle : List Arrow) → IsShortestOfFirst parts (length parts) circle → length circle ≤ facts.keys
  shortest_few circle first =
      let part = some_part parts first.r first.before in
      let of_part = first.of part in
      let is = are.parts_are.parts_are first.r part first.before in
      let few = of_part.few in
      let bound = is.bound in
      let all = is.keys_are.few in
      omega (arith, ap length of_part.renumbered, length-map of_part.own (arrow_at (get_or parts first.r part).keys.items))
