-- How parts and homes are made, one key or one part after the other.
use Rattle.ld_parts.proofs.Names.{[], ◌++◌, ◌+◌, ◌<◌, ◌↔◌, ◌∙◌, ◌∷◌, ◌≡◌, ◌≤◌, All, All-push, All-take, AreHomes, AreHoused, AreKeysOf, AreParts, Arrow, Bool, Contains, Contains-append_left, Contains-head, Contains-push, FactParts, GRAPH_KEYS, HasFact, Home, IfSome, IsCircle, IsCrowded, IsFalse, IsHome, IsNone, IsShortestOfFirst, IsShortestOfPart, IsTrue, List, MAX_KEYS, None, OnCircle, Option, Part, Some, ap, arith, arrow_at, cases_eq, cases_lt, get_or, get_or-take, get_or_append_left, get_or_default, get_or_push, inl, inr, length, length-map, length-take-le, length_push, no_longer, refl, subst, sym, take, ℕ}
use Rattle.std.proofs.lemmas.List.Quantifiers.{all_pairs_push}
use Rattle.ld_parts.proofs.Parts.{no_circle, some_part}

-- ---- one more
-- what holds of the first n, and of the next, holds of one more
pub first_more : {X : Type 0} (P : X → Type 0) (xs : List X) (n : ℕ) (x : X) → n < length xs → x ≡ get_or xs n x →
    ((k : ℕ) (d : X) → k < n → P (get_or xs k d)) → P x → (k : ℕ) (d : X) → k < n + 1 → P (get_or xs k d)
first_more P xs n x within is before here k d l =
    elim (cases_lt k n) [
      | inl less ↦ before k d less
      | inr more ↦
          let e : n ≡ k = omega arith in
          subst P (is ∙ get_or_default xs n x d within ∙ ap (λ i. get_or xs i d) e) here
    ]

-- what holds of each, by its place, and of one that is pushed, holds of each then
pub pushed_more : {X : Type 0} (P : ℕ → X → Type 0) (xs : List X) (x : X) →
    ((k : ℕ) (d : X) → k < length xs → P k (get_or xs k d)) → P (length xs) x →
    (k : ℕ) (d : X) → k < length (xs ++ x ∷ []) → P k (get_or (xs ++ x ∷ []) k d)
pushed_more P xs x before here k d l =
    elim (cases_lt k (length xs)) [
      | inl less ↦ subst (P k) (sym (get_or_append_left xs (x ∷ []) d k less)) (before k d less)
      | inr more ↦
          let e : length xs ≡ k = omega (arith, length_push xs x) in
          subst (P k) (sym (get_or_push xs x d k e)) (subst (λ i. P i x) e here)
    ]

-- ---- the keys of a rank
module _ (rank : ℕ → ℕ) (r n : ℕ) (keys : List ℕ) (are : AreKeysOf n rank r keys) where
  wider : All (λ key. (key < n + 1) × (rank key ≡ r)) keys
  wider k d l = let (below, is) = are.of k d l in (omega arith, is)

  pub AreKeysOf-more : rank n ≡ r → AreKeysOf (n + 1) rank r (keys ++ n ∷ [])
  AreKeysOf-more is = record {
    once = all_pairs_push (λ a b. ¬ (a ≡ b)) keys n are.once (λ k d l e. absurd (let below = (are.of k d l).0 in omega arith));
    of = All-push (λ key. (key < n + 1) × (rank key ≡ r)) keys n wider (omega arith, is);
    all = λ key l at_key. elim (cases_eq key n) [
      | inl e ↦ subst (Contains (keys ++ n ∷ [])) (sym e) (Contains-push keys n)
      | inr ne ↦ Contains-append_left keys (n ∷ []) key (are.all key (omega arith) at_key)
    ];
    few = let l = are.few in omega (arith, length_push keys n);
  }

  pub AreKeysOf-same : ¬ (rank n ≡ r) → AreKeysOf (n + 1) rank r keys
  AreKeysOf-same other = record {
    once = are.once;
    of = wider;
    all = λ key l at_key. elim (cases_eq key n) [
      | inl e ↦ absurd (other (subst (λ k. rank k ≡ r) e at_key))
      | inr ne ↦ are.all key (omega arith) at_key
    ];
    few = let l = are.few in omega arith;
  }

  -- one more than a graph takes are too many
  pub IsCrowded-keys : GRAPH_KEYS < length keys → IsCrowded n rank r
  IsCrowded-keys many =
      let first = take (GRAPH_KEYS + 1) keys in
      let long : length first ≡ GRAPH_KEYS + 1 = length-take-le (GRAPH_KEYS + 1) keys (omega arith) in (
        first,
        long,
        (λ i j d less l e.
            let lj : j < GRAPH_KEYS + 1 = omega arith in
            are.once i j d less (omega arith)
            (sym (get_or-take (GRAPH_KEYS + 1) keys i d (omega arith)) ∙ e ∙ get_or-take (GRAPH_KEYS + 1) keys j d lj)),
        All-take (λ key. (key < n) × (rank key ≡ r)) (GRAPH_KEYS + 1) keys are.of,
      )

-- ---- homes
pub AreHomes-more : (rank : ℕ → ℕ) (parts : List Part) (n : ℕ) (homes : List Home) (home : Home) →
    AreHomes n rank parts homes → IsHome rank parts n home → AreHomes (n + 1) rank parts (homes ++ home ∷ [])
AreHomes-more rank parts n homes home are is = record {
  homes_of = length_push homes home ∙ ap (λ k. k + 1) are.homes_of;
  homes_are = pushed_more (IsHome rank parts) homes home are.homes_are
      (subst (λ k. IsHome rank parts k home) (sym are.homes_of) is);
}

-- ---- a shortest circle of the parts
module _ (parts : List Part) (n : ℕ) (part : Part) (within : n < length parts) (is : part ≡ get_or parts n part) where
  -- each circle of the part has as many members or more
  abbrev pub LeastOf : List Arrow → Part → Type 0
  LeastOf circle p = (other : List Arrow) → IsCircle (HasFact p.graph.facts) other → length circle ≤ length other

  least_more : (circle : List Arrow) → ((s : ℕ) (p : Part) → s < n → LeastOf circle (get_or parts s p)) → LeastOf circle part →
      (s : ℕ) (p : Part) (other : List Arrow) → s < n + 1 → IsCircle (HasFact (get_or parts s p).graph.facts) other →
      length circle ≤ length other
  least_more circle before here s p other l other_is =
      first_more (LeastOf circle) parts n part within is before here s p l other other_is

  -- a circle that the part returns is a shortest of its own
  least_of_part : (circle : List Arrow) → IsShortestOfPart part circle → LeastOf circle part
  least_of_part circle of_part other other_is =
      let least = of_part.shortest.least other other_is in
      omega (arith, ap length of_part.renumbered, length-map of_part.own (arrow_at part.keys.items))

  pub none_more : ((k : ℕ) (p : Part) → k < n → (d : Arrow) → ¬ OnCircle (HasFact (get_or parts k p).graph.facts) d) →
      ((d : Arrow) → ¬ OnCircle (HasFact part.graph.facts) d) →
      (k : ℕ) (p : Part) → k < n + 1 → (d : Arrow) → ¬ OnCircle (HasFact (get_or parts k p).graph.facts) d
  none_more before here = first_more (λ p. (d : Arrow) → ¬ OnCircle (HasFact p.graph.facts) d) parts n part within is before here

  -- the part has none, or one that isn't shorter: what is known stays
  pub known_stays : (known : List Arrow) → IsShortestOfFirst parts n known → LeastOf known part → IsShortestOfFirst parts (n + 1) known
  known_stays known was here = record {
    r = was.r;
    before = let l = was.before in omega arith;
    of = was.of;
    least = least_more known (λ s p l other. was.least s p other l) here;
  }

  pub stays_without : (o : Option (List Arrow)) → ((d : Arrow) → ¬ OnCircle (HasFact part.graph.facts) d) →
      IfSome o (IsShortestOfFirst parts n) → IfSome o (IsShortestOfFirst parts (n + 1))
  stays_without None none was = was
  stays_without (Some known) none was = known_stays known was (λ other other_is. absurd (no_circle (HasFact part.graph.facts) none other other_is))

  module _ (circle : List Arrow) (of_part : IsShortestOfPart part circle) (shorter : Bool) where
    pub stays_beside : (o : Option (List Arrow)) → IsFalse shorter → (IsNone o → IsTrue shorter) →
        IfSome o (λ known. IsTrue shorter ↔ (length circle < length known)) →
        IfSome o (IsShortestOfFirst parts n) → IfSome o (IsShortestOfFirst parts (n + 1))
    stays_beside None not_shorter none some was = was
    stays_beside (Some known) not_shorter none some was = known_stays known was (λ other other_is.
        let least = least_of_part circle of_part other other_is in
        elim (cases_lt (length circle) (length known)) [
          | inl less ↦ absurd (let t = some.1 less in cc)
          | inr more ↦ omega arith
        ])

    least_before : (o : Option (List Arrow)) → IsTrue shorter →
        (IsNone o → (k : ℕ) (p : Part) → k < n → (d : Arrow) → ¬ OnCircle (HasFact (get_or parts k p).graph.facts) d) →
        IfSome o (λ known. IsTrue shorter ↔ (length circle < length known)) →
        IfSome o (IsShortestOfFirst parts n) → (s : ℕ) (p : Part) → s < n → LeastOf circle (get_or parts s p)
    least_before None is_shorter none some was s p l [] no_walk = absurd no_walk
    least_before None is_shorter none some was s p l (a ∷ rest) closed = absurd (none refl s p l a (a, rest, closed, Contains-head a rest))
    least_before (Some known) is_shorter none some was s p l other other_is =
        let less = some.0 is_shorter in
        let least = was.least s p other l other_is in
        omega arith

    pub is_taken : (o : Option (List Arrow)) → IsTrue shorter →
        (IsNone o → (k : ℕ) (p : Part) → k < n → (d : Arrow) → ¬ OnCircle (HasFact (get_or parts k p).graph.facts) d) →
        IfSome o (λ known. IsTrue shorter ↔ (length circle < length known)) →
        IfSome o (IsShortestOfFirst parts n) → IsShortestOfFirst parts (n + 1) circle
    is_taken o is_shorter none some was = record {
      r = n;
      before = omega arith;
      of = λ p. subst (λ v. IsShortestOfPart v circle) (is ∙ get_or_default parts n part p within) of_part;
      least = least_more circle (least_before o is_shorter none some was) (least_of_part circle of_part);
    }

-- ---- parts with all keys
pub AreHoused-parts : (facts : FactParts) (rank : ℕ → ℕ) (parts : List Part) → AreParts facts rank parts → facts.keys ≤ MAX_KEYS →
    AreHoused facts.keys rank parts
AreHoused-parts facts rank parts are few = record {
  within = are.all;
  listed = λ key part l. (are.parts_are (rank key) part (are.all key l)).keys_are.all key l refl;
  few = λ r part l. let all = (are.parts_are r part l).keys_are.few in omega arith;
}

-- and of none too many
pub not_crowded : (facts : FactParts) (rank : ℕ → ℕ) (parts : List Part) → AreParts facts rank parts →
    (r : ℕ) → ¬ IsCrowded facts.keys rank r
not_crowded facts rank parts are r (keys, long, once, of) =
    let (below, at_r) = of 0 0 (omega arith) in
    let l : r < length parts = subst (λ s. s < length parts) at_r (are.all (get_or keys 0 0) below) in
    let part = some_part parts r l in
    let is = are.parts_are r part l in
    let room = is.room in
    let few = no_longer keys (get_or parts r part).keys.items once
    (λ key (k, lk, e). let (under, same) = subst (λ x. (x < facts.keys) × (rank x ≡ r)) e (of k key lk) in is.keys_are.all key under same) in
    omega arith
