-- Walks that lead back to an arrow, as ways over places from where it arrives to a place that it leaves.
use Rattle.ld_graph.proofs.Names.{[], ◌*◌, ◌++◌, ◌+◌, ◌<◌, ◌↔◌, ◌∙◌, ◌∷◌, ◌≡◌, ◌≤◌, ◌⊎◌, AllPairs, Arrow, Bool, ClosedWalk, Contains, Contains-cases, DependenciesOf, Edge, Fact, FactParts, GRAPH_KEYS, GoesTo, HasFact, IsShortestFrom, IsSource, Leads, LeadsRound, LeastRound, Leaves, List, MayFollow, NoGoalBy, OnCircle, Path, Reached, StrongWalk, Way, ap, arith, arrival, cases_lt, distinct-few, false, get_or, has_bit, if◌then◌else◌, inl, inr, is_r, is_s, last, length, length-map, map, none, place, reaches, refl, step, subst, suc, sym, true, zero, ℕ}
use Rattle.ld_graph.proofs.Circles.{ClosedWalk-from_circle}
use Rattle.ld_graph.proofs.Nearest.{GoesTo-walk}
use Rattle.ld_graph.proofs.Paths.{IsWithin, Leaves-from_MayFollow, MayFollow-from_Leaves, StrongWalk-last}
use Rattle.ld_graph.proofs.Ways.{Comes-path, Path-first}

-- ---- ways in parts
pub GoesTo-append : (In : Arrow → Type 0) (p m q : ℕ) (u v : List Arrow) → GoesTo In p u m → GoesTo In m v q →
    GoesTo In p (u ++ v) q
GoesTo-append In p m q [] v e goes = subst (λ x. GoesTo In x v q) (sym e) goes
GoesTo-append In p m q (a ∷ u) v (has, leaves, front) goes =
    (has, leaves, GoesTo-append In (arrival a) m q u v front goes)

pub GoesTo-split : (In : Arrow → Type 0) (p q : ℕ) (u v : List Arrow) → GoesTo In p (u ++ v) q →
    (m : ℕ) × GoesTo In p u m × GoesTo In m v q
GoesTo-split In p q [] v goes = (p, refl, goes)
GoesTo-split In p q (a ∷ u) v (has, leaves, goes) =
    let (m, front, back) = GoesTo-split In (arrival a) q u v goes in (m, (has, leaves, front), back)

pub GoesTo-path : (In : Arrow → Type 0) (p q : ℕ) (way : List Arrow) → GoesTo In p way q → Path (Leads In) p q
GoesTo-path In p q [] e = subst (Path (Leads In) p) e none
GoesTo-path In p q (a ∷ way) (has, leaves, goes) =
    Path-first (Leads In) p (arrival a) q (a, has, leaves, refl) (GoesTo-path In (arrival a) q way goes)

pub GoesTo-from_path : (In : Arrow → Type 0) {p q : ℕ} → Path (Leads In) p q → (way : List Arrow) × GoesTo In p way q
GoesTo-from_path In none = ([], refl)
GoesTo-from_path In (step {p} {q} {r} path (a, has, leaves, arrives)) =
    let (way, goes) = GoesTo-from_path In path in
    (way ++ a ∷ [], GoesTo-append In p q r way (a ∷ []) goes (has, leaves, arrives))

-- ---- a way back to l is a strong walk such that it and l may follow each other
pub LeadsRound-walk : (In : Arrow → Type 0) → IsWithin In → (l : Arrow) → l.start < GRAPH_KEYS → l.end < GRAPH_KEYS →
    (d : Arrow) (rest : List Arrow) →
    LeadsRound In l (d ∷ rest) → StrongWalk In d rest × MayFollow (last d rest) l × MayFollow l d
LeadsRound-walk In within l ls le d rest (some, (q, leaves, goes)) =
    let (walk, e) = GoesTo-walk In within (arrival l) q d rest goes in (
      walk,
      MayFollow-from_Leaves (last d rest) l (within.ends (last d rest) (StrongWalk-last In d rest walk)) ls
          (subst (Leaves l) (sym e) leaves),
      MayFollow-from_Leaves l d le (within.starts d goes.0) goes.1,
    )

pub LeadsRound-from_walk : (In : Arrow → Type 0) (l d : Arrow) (rest : List Arrow) →
    StrongWalk In d rest → MayFollow (last d rest) l → MayFollow l d → LeadsRound In l (d ∷ rest)
LeadsRound-from_walk In l d rest walk closes starts = (
  omega arith,
  (
    arrival (last d rest),
    Leaves-from_MayFollow (last d rest) l closes,
    goes (arrival l) d rest (Leaves-from_MayFollow l d starts) walk,
  ),
)
  where
    goes : (p : ℕ) (d : Arrow) (rest : List Arrow) → Leaves d p → StrongWalk In d rest →
        GoesTo In p (d ∷ rest) (arrival (last d rest))
    goes p d [] leaves walk = (walk, leaves, refl)
    goes p d (b ∷ rest) leaves walk =
        (walk.0, leaves, goes (arrival d) b rest (Leaves-from_MayFollow d b walk.1) walk.2)

-- ---- shortest ways
-- the way leads from p to one of the goals
abbrev pub LeadsInto : (Arrow → Type 0) → (ℕ → Type 0) → ℕ → List Arrow → Type 0
LeadsInto In Goal p way = (q : ℕ) × Goal q × GoesTo In p way q

-- none that does is shorter
abbrev pub LeastInto : (Arrow → Type 0) → (ℕ → Type 0) → ℕ → ℕ → Type 0
LeastInto In Goal p n = (way : List Arrow) → LeadsInto In Goal p way → n ≤ length way

-- a number for the place where an arrow arrives: two for each key
abbrev spot_of : ℕ → Bool → ℕ
spot_of key at_r = if at_r then key * 2 + 1 else key * 2

abbrev pub spot : Arrow → ℕ
spot d = spot_of d.end (is_r d.kind)

spot_of-same : (a b : ℕ) (f g : Bool) → spot_of a f ≡ spot_of b g → place a f ≡ place b g
spot_of-same a b true true e = omega arith
spot_of-same a b true false e = absurd (omega arith)
spot_of-same a b false true e = absurd (omega arith)
spot_of-same a b false false e = omega arith

spot_of-lt : (key keys : ℕ) (at_r : Bool) → key < keys → spot_of key at_r < 2 * keys
spot_of-lt key keys true l = omega arith
spot_of-lt key keys false l = omega arith

-- from each place that it meets the rest of a way continues, and is shorter
behind : (In : Arrow → Type 0) (Goal : ℕ → Type 0) (p : ℕ) (way : List Arrow) → LeadsInto In Goal p way →
    (k d : ℕ) → k < length way →
    (y : Arrow) × (get_or (map spot way) k d ≡ spot y) ×
    ((rest : List Arrow) × LeadsInto In Goal (arrival y) rest × (length rest < length way))
behind In Goal p [] leads k d l = absurd (omega arith)
behind In Goal p (a ∷ way) (q, goal, goes) zero d l = (a, refl, (way, (q, goal, goes.2), omega arith))
behind In Goal p (a ∷ way) (q, goal, goes) (suc k) d l =
    let (y, at, (rest, leads, less)) = behind In Goal (arrival a) way (q, goal, goes.2) k d (omega arith) in
    (y, at, (rest, leads, omega arith))

AllPairs-first : (x : ℕ) (xs : List ℕ) → ((k d : ℕ) → k < length xs → ¬ (x ≡ get_or xs k d)) →
    AllPairs (λ x y. ¬ (x ≡ y)) xs →
    AllPairs (λ x y. ¬ (x ≡ y)) (x ∷ xs)
AllPairs-first x xs first others zero zero d l m = absurd (omega arith)
AllPairs-first x xs first others zero (suc j) d l m = first j d (omega arith)
AllPairs-first x xs first others (suc i) zero d l m = absurd (omega arith)
AllPairs-first x xs first others (suc i) (suc j) d l m = others i j d (omega arith) (omega arith)

-- a shortest way meets no place twice, and not where it begins
meets_once : (In : Arrow → Type 0) (Goal : ℕ → Type 0) (x : Arrow) (way : List Arrow) →
    LeadsInto In Goal (arrival x) way →
    LeastInto In Goal (arrival x) (length way) → AllPairs (λ x y. ¬ (x ≡ y)) (map spot (x ∷ way))
meets_once In Goal x [] leads least = λ i j d l m. absurd (omega arith)
meets_once In Goal x (a ∷ way) (q, goal, goes) least =
    AllPairs-first (spot x) (map spot (a ∷ way))
    (λ k d l same.
    let (y, at, (rest, leads, less)) = behind In Goal (arrival x) (a ∷ way) (q, goal, goes) k d
    (let e = length-map (a ∷ way) spot in omega arith) in
    let here : arrival x ≡ arrival y = spot_of-same x.end y.end (is_r x.kind) (is_r y.kind) (same ∙ at) in
    let m = least rest (subst (λ p. LeadsInto In Goal p rest) (sym here) leads) in omega arith)
    (meets_once In Goal a way (q, goal, goes.2)
    (λ other (r, is_goal, on). let l = least (a ∷ other) (r, is_goal, (goes.0, goes.1, on)) in omega arith))

-- so it has fewer members than the keys have places
module _ (In : Arrow → Type 0) (keys : ℕ) (below : (d : Arrow) → In d → d.end < keys) where
  spots_below : (p q : ℕ) (way : List Arrow) → GoesTo In p way q → (x : ℕ) → Contains (map spot way) x → x < 2 * keys
  spots_below p q [] goes x met = absurd (omega (arith, met.1))
  spots_below p q (a ∷ way) (has, leaves, goes) x met = elim (Contains-cases (spot a) (map spot way) x met) [
    | inl e ↦ subst (λ y. y < 2 * keys) e (spot_of-lt a.end keys (is_r a.kind) (below a has))
    | inr later ↦ spots_below (arrival a) q way goes x later
  ]

  few : (Goal : ℕ → Type 0) (x : Arrow) (way : List Arrow) → x.end < keys → LeadsInto In Goal (arrival x) way →
      LeastInto In Goal (arrival x) (length way) → length way < 2 * keys
  few Goal x way lx leads least =
      let l : length (map spot (x ∷ way)) ≤ 2 * keys = distinct-few (map spot (x ∷ way)) (2 * keys)
      (meets_once In Goal x way leads least)
      (λ s met. elim (Contains-cases (spot x) (map spot way) s met) [
        | inl e ↦ subst (λ y. y < 2 * keys) e (spot_of-lt x.end keys (is_r x.kind) lx)
        | inr later ↦ spots_below (arrival x) leads.0 way leads.2 s later
      ]) in
      let e = length-map (x ∷ way) spot in omega arith

  module _ (l : Arrow) where
    -- a shortest way back to l has no more members than the keys have places
    pub LeadsRound-few : (way : List Arrow) → LeadsRound In l way → LeastRound In l (length way) →
        length way ≤ 2 * keys
    LeadsRound-few [] leads least = omega arith
    LeadsRound-few (a ∷ rest) (some, (q, leaves, goes)) least =
        let f = few (Leaves l) a rest (below a goes.0) (q, leaves, goes.2)
        (λ other (r, left, on). let n = least (a ∷ other) (omega arith, (r, left, (goes.0, goes.1, on))) in omega arith) in
        omega arith

    -- and fewer, if l may not follow itself
    pub LeadsRound-fewer : l.end < keys → ¬ Leaves l (arrival l) → (way : List Arrow) → LeadsRound In l way →
        LeastRound In l (length way) →
        length way < 2 * keys
    LeadsRound-fewer le apart way (some, leads) least = few (Leaves l) l way le leads others
      where
        others : LeastInto In (Leaves l) (arrival l) (length way)
        others [] (q, leaves, same) = absurd (apart (subst (Leaves l) (sym same) leaves))
        others (b ∷ other) into = least (b ∷ other) (omega arith, into)

    -- if each has more, there is none
    pub no_round : LeastRound In l (2 * keys + 1) → (way : List Arrow) → ¬ LeadsRound In l way
    no_round long way = none_by (length way) way (omega arith)
      where
        none_by : (n : ℕ) (way : List Arrow) → length way ≤ n → ¬ LeadsRound In l way
        none_by zero way short (some, leads) = absurd (omega arith)
        none_by (suc n) way short leads =
            let f = LeadsRound-few way leads (λ other h. elim (cases_lt n (length other)) [
              | inl more ↦ omega arith
              | inr less ↦ absurd (none_by n other less h)
            ]) in
            let m = long way leads in absurd (omega arith)

-- ---- closed walks
-- a closed walk is only its first member, or leads back to it
ClosedWalk-rounds : (In : Arrow → Type 0) (d : Arrow) (rest : List Arrow) → ClosedWalk In d rest →
    MayFollow d d ⊎ LeadsRound In d rest
ClosedWalk-rounds In d [] (has, closes) = inl closes
ClosedWalk-rounds In d (b ∷ rest) (walk, closes) = inr (LeadsRound-from_walk In d b rest walk.2 closes walk.1)

ClosedWalk-from_round : (In : Arrow → Type 0) → IsWithin In → (d : Arrow) → In d → (rest : List Arrow) →
    LeadsRound In d rest → ClosedWalk In d rest
ClosedWalk-from_round In within d has [] round = absurd (let some = round.0 in omega arith)
ClosedWalk-from_round In within d has (b ∷ rest) round =
    let (walk, closes, starts) = LeadsRound-walk In within d (within.starts d has) (within.ends d has) b rest round in
    ((has, starts, walk), closes)

-- what is appended to d: nothing if d may follow itself, otherwise a shortest way back to it
abbrev pub Closes : (Arrow → Type 0) → Arrow → List Arrow → Type 0
Closes In d rest = (MayFollow d d × (rest ≡ [])) ⊎
    ((¬ MayFollow d d) × LeadsRound In d rest × LeastRound In d (length rest))

module _ (Has : Fact → Type 0) (within : IsWithin (DependenciesOf Has)) (d : Arrow) (has : DependenciesOf Has d) where
  abbrev In : Arrow → Type 0
  In = DependenciesOf Has

  pub IsShortestFrom-closes : (rest : List Arrow) → Closes In d rest → IsShortestFrom Has d (d ∷ rest)
  IsShortestFrom-closes rest (inl (itself, none_behind)) = record {
    rest = [];
    walk_is = ap (λ xs. d ∷ xs) none_behind;
    closed = (has, itself);
    least = λ other closed. omega arith;
  }
  IsShortestFrom-closes rest (inr (apart, round, least)) = record {
    rest = rest;
    walk_is = refl;
    closed = ClosedWalk-from_round In within d has rest round;
    least = λ other closed. elim (ClosedWalk-rounds In d other closed) [
      | inl itself ↦ absurd (apart itself)
      | inr back ↦ least other back
    ];
  }

  -- if no way leads back to d, and it may not follow itself, it is on no circle
  pub no_circle_through : ¬ MayFollow d d → ((way : List Arrow) → ¬ LeadsRound In d way) → ¬ OnCircle Has d
  no_circle_through apart none_back on =
      let (rest, closed) = ClosedWalk-from_circle Has d on in
      elim (ClosedWalk-rounds In d rest closed) [
        | inl itself ↦ apart itself
        | inr back ↦ none_back rest back
      ]

  -- how long it is
  pub Closes-few : (keys : ℕ) → ((x : Arrow) → In x → x.end < keys) → (rest : List Arrow) → Closes In d rest →
      length rest < 2 * keys
  Closes-few keys below rest (inl (itself, none_behind)) =
      let l = below d has in let e = ap length none_behind in omega arith
  Closes-few keys below rest (inr (apart, round, least)) =
      LeadsRound-fewer In keys below d (below d has)
      (λ leaves. apart (MayFollow-from_Leaves d d (within.ends d has) (within.starts d has) leaves)) rest round least

-- ---- the search finds them
module _ (facts : FactParts) (table : List (List ℕ))
    (ways : (p q : ℕ) → (reaches table p q ≡ true) ↔ Way (Leads (DependenciesOf (HasFact facts))) p q)
    (l : Arrow) (inside : List ℕ)
    (are_inside : (p : ℕ) → (has_bit inside p ≡ true) ↔ IsSource table l.start (is_s l.kind) p) where
  abbrev Found : Arrow → Type 0
  Found = DependenciesOf (HasFact facts)

  -- a place from which a way leads back is inside
  inside_from : (p q : ℕ) (way : List Arrow) → Leaves l q → GoesTo Found p way q → has_bit inside p ≡ true
  inside_from p q way leaves goes =
      (are_inside p).1 (q, leaves, (Comes-path (Leads Found) table ways p q).1 (GoesTo-path Found p q way goes))

  reached_along : (p q m n k : ℕ) (way : List Arrow) → Leaves l q → Reached (Edge facts inside) p n m →
      GoesTo Found m way q →
      n + length way ≡ k → Reached (Edge facts inside) p k q
  reached_along p q m n k [] leaves r e sum =
      subst (λ j. Reached (Edge facts inside) p j q) (omega arith) (subst (Reached (Edge facts inside) p n) e r)
  reached_along p q m n k (a ∷ way) leaves r (has, out, goes) sum =
      reached_along p q (arrival a) (suc n) k way leaves
      (m, r, ((a, has, out, refl), inside_from (arrival a) q way leaves goes)) goes (omega arith)

  -- if no goal is found in fewer steps
  pub LeastRound-searched : (goal : List ℕ) (n : ℕ) → ((q : ℕ) → Leaves l q → has_bit goal q ≡ true) →
      ((m : ℕ) → m < n → NoGoalBy facts inside goal (arrival l) m) → LeastRound Found l n
  LeastRound-searched goal n goals missed [] (some, leads) = absurd (omega arith)
  LeastRound-searched goal n goals missed (a ∷ rest) (some, (q, leaves, goes)) =
      elim (cases_lt (suc (length rest)) n) [
        | inl shorter ↦
            absurd (let off = missed (suc (length rest)) shorter (length rest) q (omega arith)
            (reached_along (arrival l) q (arrival l) 0 (suc (length rest)) (a ∷ rest) leaves refl goes (omega arith)) in
            let on = goals q leaves in cc)
        | inr longer ↦ longer
      ]
