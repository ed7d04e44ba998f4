-- Circles through a place, as the search finds them.
use Rattle.ld_graph.proofs.Names.{[], ◌&&◌, ◌+◌, ◌<◌, ◌↔◌, ◌∙◌, ◌∷◌, ◌≡◌, ◌≢◌, ◌≤◌, ◌⊎◌, Arrow, Avoids, Bool, ClosedWalk, Contains, Contains-head, Contains-later, DependenciesOf, Edge, FactParts, GRAPH_KEYS, GoesTo, HasFact, IsCircle, Leads, LeastThrough, Leaves, List, MayFollow, NoGoalBy, PLACES, Path, Reached, StrongWalk, StrongWalk-more, Way, and_from, ap, append-nil, arith, arrival, cases_Bool, cases_eq, cases_lt, false, has_bit, inl, inr, is_r, last, length, none, not, not_from_false, place, reaches, refl, step, subst, suc, sym, true, ℕ}
use Rattle.ld_graph.proofs.Circles.{StrongWalk-head, ClosedWalk-turn_to}
use Rattle.ld_graph.proofs.Paths.{IsWithin, Leaves-from_MayFollow, MayFollow-from_Leaves, Path-from_walk}
use Rattle.ld_graph.proofs.Ways.{Path-cases, Way-then_path}

-- ---- a way over places is a walk
pub GoesTo-walk : (In : Arrow → Type 0) → IsWithin In → (p q : ℕ) (a : Arrow) (rest : List Arrow) → GoesTo In p (a ∷ rest) q →
    StrongWalk In a rest × (arrival (last a rest) ≡ q)
GoesTo-walk In within p q a [] (has, leaves, e) = (has, e)
GoesTo-walk In within p q a (b ∷ rest) (has, leaves, goes) =
    let (walk, e) = GoesTo-walk In within (arrival a) q b rest goes in
    ((has, MayFollow-from_Leaves a b (within.ends a has) (within.starts b goes.0) goes.1, walk), e)

pub IsCircle-from_way : (facts : FactParts) → IsWithin (DependenciesOf (HasFact facts)) → (place : ℕ) (circle : List Arrow) → 0 < length circle →
    GoesTo (DependenciesOf (HasFact facts)) place circle place → IsCircle (HasFact facts) circle
IsCircle-from_way facts within place [] some goes = absurd (omega arith)
IsCircle-from_way facts within place (a ∷ rest) some goes =
    let (walk, e) = GoesTo-walk (DependenciesOf (HasFact facts)) within place place a rest goes in
    (walk, MayFollow-from_Leaves (last a rest) a (within.ends (last a rest) (last_in a rest walk)) (within.starts a goes.0) (subst (Leaves a) (sym e) goes.1))
  where
    last_in : (a : Arrow) (rest : List Arrow) → StrongWalk (DependenciesOf (HasFact facts)) a rest → DependenciesOf (HasFact facts) (last a rest)
    last_in a [] w = w
    last_in a (b ∷ rest) w = last_in b rest w.2

-- ---- a walk is a way over places
Way-last : (E : ℕ → ℕ → Type 0) (p q r : ℕ) → Path E p q → E q r → Way E p r
Way-last E p q r path e = elim (Path-cases E path) [
  | inl same ↦ (r, subst (λ x. E x r) (sym same) e, none)
  | inr way ↦ Way-then_path E p q r way (step none e)
]

module _ (facts : FactParts) (table : List (List ℕ)) (ways : (p q : ℕ) → (reaches table p q ≡ true) ↔ Way (Leads (DependenciesOf (HasFact facts))) p q)
    (done inside : List ℕ) (place : ℕ) (are_inside : (q : ℕ) → has_bit inside q ≡ (reaches table q place && not (has_bit done q))) where
  -- what leads to the place, and is not done, is inside
  inside_from : (q : ℕ) → Way (Leads (DependenciesOf (HasFact facts))) q place → has_bit done q ≡ false → has_bit inside q ≡ true
  inside_from q way fresh =
      are_inside q ∙ and_from (reaches table q place) (not (has_bit done q)) ((ways q place).1 way) (not_from_false (has_bit done q) fresh)

  strong : (a : Arrow) (rest : List Arrow) → StrongWalk (Avoids facts done) a rest → StrongWalk (DependenciesOf (HasFact facts)) a rest
  strong = StrongWalk-more (Avoids facts done) (DependenciesOf (HasFact facts)) (λ d h. h.0)

  -- such a walk that x may follow leads to the place, if x arrives there
  leads_to : (x : Arrow) → Avoids facts done x → arrival x ≡ place → (d : Arrow) (rest : List Arrow) → StrongWalk (Avoids facts done) d rest →
      MayFollow (last d rest) x → has_bit inside (arrival d) ≡ true
  leads_to x has arrives d rest walk follows =
      inside_from (arrival d)
      (Way-last (Leads (DependenciesOf (HasFact facts))) (arrival d) (arrival (last d rest)) place
      (Path-from_walk (DependenciesOf (HasFact facts)) (arrival d) d rest none (strong d rest walk))
      (x, has.0, Leaves-from_MayFollow (last d rest) x follows, arrives))
      (StrongWalk-head (Avoids facts done) d rest walk).1

  reached_along : (x : Arrow) → Avoids facts done x → arrival x ≡ place → has_bit inside place ≡ true → (d : Arrow) (rest : List Arrow) (n k : ℕ) →
      Reached (Edge facts inside) place n (arrival d) → StrongWalk (Avoids facts done) d rest → MayFollow (last d rest) x → n + length rest ≡ k →
      Reached (Edge facts inside) place (suc k) place
  reached_along x has arrives here d [] n k r walk follows e =
      (arrival d, subst (λ j. Reached (Edge facts inside) place j (arrival d)) (omega arith) r, ((x, has.0, Leaves-from_MayFollow d x follows, arrives), here))
  reached_along x has arrives here d (b ∷ rest) n k r walk follows e =
      reached_along x has arrives here b rest (suc n) k
      (arrival d, r, ((b, (StrongWalk-head (Avoids facts done) b rest walk.2).0, Leaves-from_MayFollow d b walk.1, refl), leads_to x has arrives b rest walk.2 follows))
      walk.2 follows (omega arith)

  inside_place : (d : Arrow) (rest : List Arrow) → ClosedWalk (Avoids facts done) d rest → arrival d ≡ place → has_bit inside place ≡ true
  inside_place d rest closed arrives =
      subst (λ q. has_bit inside q ≡ true) arrives (leads_to d (StrongWalk-head (Avoids facts done) d rest closed.0) arrives d rest closed.0 closed.1)

  -- as many edges lead back to the place as the walk has members
  reached_round : (d : Arrow) (rest : List Arrow) → ClosedWalk (Avoids facts done) d rest → arrival d ≡ place →
      Reached (Edge facts inside) place (suc (length rest)) place
  reached_round d rest closed arrives =
      reached_along d (StrongWalk-head (Avoids facts done) d rest closed.0) arrives (inside_place d rest closed arrives) d rest 0 (length rest) (sym arrives) closed.0 closed.1 (omega arith)

  -- if the place isn't inside, there is no circle
  pub LeastThrough-outside : (n : ℕ) → has_bit inside place ≡ false → LeastThrough facts done place n
  LeastThrough-outside n off d rest closed arrives = absurd (let on = inside_place d rest closed arrives in cc)

  -- if the search finds no goal in fewer steps
  pub LeastThrough-searched : (goal : List ℕ) (n : ℕ) → has_bit goal place ≡ true → ((m : ℕ) → m < n → NoGoalBy facts inside goal place m) →
      LeastThrough facts done place n
  LeastThrough-searched goal n is_goal missed d rest closed arrives = elim (cases_lt (suc (length rest)) n) [
    | inl shorter ↦ absurd (let off = missed (suc (length rest)) shorter (length rest) place (omega arith) (reached_round d rest closed arrives) in cc)
    | inr longer ↦ longer
  ]

-- ---- one more place is done
-- a walk arrives at a place that is done, or avoids them
meets_or_avoids : (facts : FactParts) (done : List ℕ) (a : Arrow) (rest : List Arrow) → StrongWalk (DependenciesOf (HasFact facts)) a rest →
    StrongWalk (Avoids facts done) a rest ⊎ ((d : Arrow) × Contains (a ∷ rest) d × (has_bit done (arrival d) ≡ true))
meets_or_avoids facts done a [] w = elim (cases_Bool (has_bit done (arrival a))) [
  | inl on ↦ inr (a, Contains-head a [], on)
  | inr off ↦ inl (w, off)
]
meets_or_avoids facts done a (b ∷ rest) w = elim (cases_Bool (has_bit done (arrival a))) [
  | inl on ↦ inr (a, Contains-head a (b ∷ rest), on)
  | inr off ↦ elim (meets_or_avoids facts done b rest w.2) [
    | inl avoids ↦ inl ((w.0, off), w.1, avoids)
    | inr (d, met, on) ↦ inr (d, Contains-later a (b ∷ rest) d met, on)
  ]
]

-- each circle that arrives at a place that is done has at least this many members
abbrev pub LeastDone : FactParts → List ℕ → ℕ → Type 0
LeastDone facts done n = (walk : List Arrow) → IsCircle (HasFact facts) walk → (d : Arrow) → Contains walk d → has_bit done (arrival d) ≡ true →
    n ≤ length walk

pub LeastDone-more : (facts : FactParts) (done done' : List ℕ) (place bound n : ℕ) → ((q : ℕ) → q ≢ place → has_bit done' q ≡ has_bit done q) →
    LeastDone facts done bound → n ≤ bound → LeastThrough facts done place n → LeastDone facts done' n
LeastDone-more facts done done' place bound n others least shorter through [] no_walk d has on = absurd no_walk
LeastDone-more facts done done' place bound n others least shorter through (a ∷ rest) closed d has on =
    elim (meets_or_avoids facts done a rest closed.0) [
      | inr (e, met, was) ↦ (let l = least (a ∷ rest) closed e met was in omega arith)
      | inl avoids ↦ elim (cases_eq (arrival d) place) [
        | inr ne ↦ (let l = least (a ∷ rest) closed d has (sym (others (arrival d) ne) ∙ on) in omega arith)
        | inl here ↦
            (let (r, turned, same) = ClosedWalk-turn_to (Avoids facts done) a rest [] d (subst (ClosedWalk (Avoids facts done) a) (sym (append-nil rest)) (avoids, closed.1)) has in
            let l = through d r turned here in let e = ap length (append-nil rest) in omega arith)
      ]
    ]

pub arrows_below : (facts : FactParts) → facts.keys ≤ GRAPH_KEYS → IsWithin (DependenciesOf (HasFact facts))
arrows_below facts few = record {
  starts = λ d h. let l = h.0.0 in omega arith;
  ends = λ d h. let l = h.0.1 in omega arith;
}

-- if all places are done, each circle has at least this many members
place-lt : (key : ℕ) (at_r : Bool) → key < GRAPH_KEYS → place key at_r < PLACES
place-lt key true l = omega arith
place-lt key false l = omega arith

pub LeastDone-all : (facts : FactParts) (done : List ℕ) (n : ℕ) → facts.keys ≤ GRAPH_KEYS → ((q : ℕ) → q < PLACES → has_bit done q ≡ true) →
    LeastDone facts done n → (walk : List Arrow) → IsCircle (HasFact facts) walk → n ≤ length walk
LeastDone-all facts done n few all least [] no_walk = absurd no_walk
LeastDone-all facts done n few all least (a ∷ rest) closed =
    let has : DependenciesOf (HasFact facts) a = StrongWalk-head (DependenciesOf (HasFact facts)) a rest closed.0 in
    let below : a.end < GRAPH_KEYS = let l = has.0.1 in omega arith in
    least (a ∷ rest) closed a (Contains-head a rest) (all (arrival a) (place-lt a.end (is_r a.kind) below))

pub done_more : (done done' : List ℕ) (n : ℕ) → ((q : ℕ) → q < n → has_bit done q ≡ true) → has_bit done' n ≡ true →
    ((q : ℕ) → q ≢ n → has_bit done' q ≡ has_bit done q) → (q : ℕ) → q < n + 1 → has_bit done' q ≡ true
done_more done done' n before here others q l = elim (cases_eq q n) [
  | inl e ↦ ap (has_bit done') e ∙ here
  | inr ne ↦ others q ne ∙ before q (omega arith)
]
