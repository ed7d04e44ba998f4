-- The rounds of a search, and the way that it finds.
use Rattle.ld_graph.proofs.Names.{[], ◌+◌, ◌-◌, ◌<◌, ◌∙◌, ◌∷◌, ◌≡◌, ◌≤◌, AreSteps, Arrow, DependenciesOf, Edge, FactParts, FindsGoal, GoesTo, HasFact, Hits, LeadsBack, List, Misses, NoGoalBy, Reached, SearchParts, SeesAllFrom, Some, StandsAt, Step, Takes, ap, arith, arrival, cases_Bool, cases_lt, false, has_bit, inl, inr, length, refl, same_Some, slice_get, slice_get_cases, slice_get_within, stands_at, subst, suc, sym, true, zero, ℕ}
use Rattle.ld_facts.specs.Inside.Rows.{arrow_of}
use Rattle.ld_facts.specs.declared.dependency.Dependency.{Dependency}

-- ---- where steps arrive
pub StandsAt-within : (steps : List Step) (i p : ℕ) → StandsAt steps i p → i < length steps
StandsAt-within steps i p (step, is, stands) = slice_get_within steps i step is

pub StandsAt-same : (steps : List Step) (i p q : ℕ) → StandsAt steps i p → StandsAt steps i q → p ≡ q
StandsAt-same steps i p q (a, is_a, at_a) (b, is_b, at_b) = sym at_a ∙ ap stands_at (same_Some a b (sym is_a ∙ is_b)) ∙ at_b

step_at : (steps : List Step) (i : ℕ) → i < length steps → (step : Step) × (slice_get steps i ≡ Some step)
step_at steps i l = elim ((slice_get_cases steps i).1) [
  | inl (x, within, is, at) ↦ (x, is)
  | inr (past, none) ↦ absurd (omega arith)
]

pub LeadsBack-stands : (facts : FactParts) (steps : List Step) (n i p : ℕ) → LeadsBack facts steps n i p → StandsAt steps i p
LeadsBack-stands facts steps zero i p h = h.1
LeadsBack-stands facts steps (suc n) i p h = (h.0, h.1, h.2)

-- ---- step i is expanded
module _ (facts : FactParts) (i : ℕ) (old new : SearchParts) (takes : Takes facts i old new) where
  StandsAt-kept : (j p : ℕ) → StandsAt old.steps j p → StandsAt new.steps j p
  StandsAt-kept j p (step, is, stands) = (step, takes.kept j step is, stands)

  StandsAt-back : (j p : ℕ) → j < length old.steps → StandsAt new.steps j p → StandsAt old.steps j p
  StandsAt-back j p l at =
      let (step, is) = step_at old.steps j l in
      (step, is, StandsAt-same new.steps j (stands_at step) p (step, takes.kept j step is, refl) at)

  LeadsBack-kept : (n j p : ℕ) → LeadsBack facts old.steps n j p → LeadsBack facts new.steps n j p
  LeadsBack-kept zero j p (e, at) = (e, StandsAt-kept j p at)
  LeadsBack-kept (suc n) j p (step, is, stands, has, (m, leaves, back)) =
      (step, takes.kept j step is, stands, has, (m, leaves, LeadsBack-kept n step.before m back))

  -- a new step leads back by one more than step i
  pub LeadsBack-fresh : (n p : ℕ) → LeadsBack facts old.steps n i p → (j : ℕ) → length old.steps ≤ j → j < length new.steps →
      (q : ℕ) × LeadsBack facts new.steps (suc n) j q
  LeadsBack-fresh n p back j late within =
      let (step, is) = step_at new.steps j within in
      let (has, before, (m, at, leaves)) = takes.fresh j step late is in
      let same : p ≡ m = StandsAt-same old.steps i p m (LeadsBack-stands facts old.steps n i p back) at in (
        stands_at step,
        (step, is, refl, has, (m, leaves, subst (λ k. LeadsBack facts new.steps n k m) (sym before) (LeadsBack-kept n i m (subst (LeadsBack facts old.steps n i) same back)))),
      )

  module _ (within goal : List ℕ) (start n first end : ℕ) (are : AreSteps facts within goal start n first end i old) (lf : first ≤ i) (le : i < end) where
    pub AreSteps-expanded : Misses goal old new → SeesAllFrom facts within i old.steps new.seen →
        AreSteps facts within goal start n first end (i + 1) new
    AreSteps-expanded misses sees = record {
      root = StandsAt-kept 0 start are.root;
      listed = λ q h. elim (takes.listed q h) [
        | inl before ↦ (let (j, at) = are.listed q before in (j, StandsAt-kept j q at))
        | inr found ↦ found
      ];
      seen = λ j l p q at edge.
          let back : StandsAt old.steps j p = StandsAt-back j p (let w = are.within_steps in omega arith) at in
          elim (cases_lt j i) [
            | inl before ↦ takes.seen_kept q (are.seen j before p q back edge)
            | inr here ↦ sees p q (subst (λ k. StandsAt old.steps k p) (let e : j ≡ i = omega arith in e) back) edge
          ];
      reached = λ m q l r.
          let (h, (j, lj, at)) = are.reached m q l r in
          (takes.seen_kept q h, (j, lj, StandsAt-kept j q at));
      layer = λ j a b. let (p, back) = are.layer j a b in (p, LeadsBack-kept n j p back);
      newer = λ j a b. elim (cases_lt j (length old.steps)) [
        | inl before ↦ (let (p, back) = are.newer j a before in (p, LeadsBack-kept (suc n) j p back))
        | inr late ↦ (let (p, back) = are.layer i lf le in LeadsBack-fresh n p back j late b)
      ];
      missed = λ q h. elim (cases_Bool (has_bit goal q)) [
        | inl g ↦ are.missed q (misses q h g)
        | inr g ↦ g
      ];
      within_steps = let a = are.within_steps in let b = takes.longer in omega arith;
    }

    pub FindsGoal-hit : Hits goal old new → FindsGoal facts goal (suc n) new × StandsAt new.steps 0 start
    FindsGoal-hit (longer, (q, at, is_goal)) =
        let (p, back) = are.layer i lf le in
        let (m, leads) = LeadsBack-fresh n p back (length new.steps - 1) (omega arith) (omega arith) in
        let same : m ≡ q = StandsAt-same new.steps (length new.steps - 1) m q (LeadsBack-stands facts new.steps (suc n) (length new.steps - 1) m leads) at in
        ((q, subst (LeadsBack facts new.steps (suc n) (length new.steps - 1)) same leads, is_goal), StandsAt-kept 0 start are.root)

-- ---- rounds
pub AreSteps-start : (facts : FactParts) (within goal : List ℕ) (start : Dependency) (found : SearchParts) →
    found.steps ≡ record { dependency = start; before = 0 } ∷ [] → ((q : ℕ) → has_bit found.seen q ≡ false) →
    AreSteps facts within goal (arrival (arrow_of start)) 0 0 (length found.steps) 0 found
AreSteps-start facts within goal start found steps none = record {
  root = root;
  listed = λ q h. absurd (let e = none q in cc);
  seen = λ i l. absurd (omega arith);
  reached = λ m q l. absurd (omega arith);
  layer = λ i a b. (arrival (arrow_of start), (first i b, subst (λ k. StandsAt found.steps k (arrival (arrow_of start))) (sym (first i b)) root));
  newer = λ i a b. absurd (omega arith);
  missed = λ q h. absurd (let e = none q in cc);
  within_steps = omega arith;
}
  where
    root : StandsAt found.steps 0 (arrival (arrow_of start))
    root = (record { dependency = start; before = 0 }, ap (λ s. slice_get s 0) steps, refl)

    first : (i : ℕ) → i < length found.steps → i ≡ 0
    first i l = let e : length found.steps ≡ 1 = ap length steps in omega arith

pub AreSteps-next : (facts : FactParts) (within goal : List ℕ) (start n first end : ℕ) (found : SearchParts) → 0 < end →
    AreSteps facts within goal start n first end end found →
    AreSteps facts within goal start (suc n) end (length found.steps) end found
AreSteps-next facts within goal start n first end found some are = record {
  root = are.root;
  listed = are.listed;
  seen = are.seen;
  reached = reached;
  layer = are.newer;
  newer = λ i a b. absurd (omega arith);
  missed = are.missed;
  within_steps = omega arith;
}
  where
    seen_by : (i p q : ℕ) → i < end → StandsAt found.steps i p → Edge facts within p q →
        (has_bit found.seen q ≡ true) × ((i : ℕ) × (i < length found.steps) × StandsAt found.steps i q)
    seen_by i p q l at edge =
        let h = are.seen i l p q at edge in
        let (j, there) = are.listed q h in
        (h, (j, StandsAt-within found.steps j q there, there))

    reached : (m q : ℕ) → m < suc n → Reached (Edge facts within) start (suc m) q →
        (has_bit found.seen q ≡ true) × ((i : ℕ) × (i < length found.steps) × StandsAt found.steps i q)
    reached zero q l (p, same, edge) = seen_by 0 p q some (subst (StandsAt found.steps 0) same are.root) edge
    reached (suc m) q l (p, r, edge) =
        let (h, (i, li, at)) = are.reached m p (omega arith) r in
        seen_by i p q li at edge

-- no goal is within as many edges as there were rounds
pub NoGoalBy-steps : (facts : FactParts) (within goal : List ℕ) (start n first end next : ℕ) (found : SearchParts) →
    AreSteps facts within goal start n first end next found → (m : ℕ) → m ≤ n → NoGoalBy facts within goal start m
NoGoalBy-steps facts within goal start n first end next found are m l = λ k q lk r. are.missed q (are.reached k q (omega arith) r).0

-- nor any further on, if all steps have been expanded
pub NoGoalBy-done : (facts : FactParts) (within goal : List ℕ) (start n first end : ℕ) (found : SearchParts) →
    AreSteps facts within goal start n first end (length found.steps) found → (m : ℕ) → NoGoalBy facts within goal start m
NoGoalBy-done facts within goal start n first end found are m = λ k q l r. are.missed q (reached k q r)
  where
    reached : (m q : ℕ) → Reached (Edge facts within) start (suc m) q → has_bit found.seen q ≡ true
    reached zero q (p, same, edge) = are.seen 0 (StandsAt-within found.steps 0 start are.root) p q (subst (StandsAt found.steps 0) same are.root) edge
    reached (suc m) q (p, r, edge) =
        let (i, at) = are.listed p (reached m p r) in
        are.seen i (StandsAt-within found.steps i p at) p q at edge

-- ---- the way back
-- after some of its steps: what is left leads back to the start, and the way continues to where it began
abbrev pub GoesBack : FactParts → List Step → (left i : ℕ) → List Arrow → ℕ → Type 0
GoesBack facts steps left i way q = (m : ℕ) × LeadsBack facts steps left i m × GoesTo (DependenciesOf (HasFact facts)) m way q

-- ---- one step back
pub GoesBack-step : (facts : FactParts) (steps : List Step) (left i q : ℕ) (way : List Arrow) (step : Step) → slice_get steps i ≡ Some step →
    GoesBack facts steps (suc left) i way q → GoesBack facts steps left step.before (arrow_of step.dependency ∷ way) q
GoesBack-step facts steps left i q way step is (m, (s, at, stands, has, (before, leaves, back)), goes) =
    let same : s ≡ step = same_Some s step (sym at ∙ is) in
    subst (λ x. GoesBack facts steps left x.before (arrow_of x.dependency ∷ way) q) same
    (before, back, (has, leaves, subst (λ k. GoesTo (DependenciesOf (HasFact facts)) k way q) (sym stands) goes))
