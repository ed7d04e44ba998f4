-- How a search over places goes: a list of steps, each a dependency and the step that it was taken from. The first step
-- stands for the start.
use Rattle.std.specs.Prelude.{◌≡◌, ℕ, suc, zero, ◌+◌, ◌-◌, ◌<◌, ◌≤◌, ◌⊎◌, Bool, IsTrue, IsFalse, List, [], ◌∷◌, ◌++◌, length, Some, slice_get}
use Rattle.ld_facts.specs.Arrows.{Arrow}
use Rattle.ld_facts.specs.Inside.Rows.{IsOfKeys, IsOfManyKeys, arrow_of}
use Rattle.ld_facts.specs.Facts.{DependenciesOf}
use Rattle.ld_facts.specs.FactBits.{FactParts, HasFact}
use Rattle.ld_facts.specs.Inside.Bits.{has_bit, count_below}
use Rattle.ld_graph.specs.declared.walk.TheConstants.{MAX_WALK}
use Rattle.ld_facts.specs.declared.places.TheConstants.{PLACES, ROW_WORDS}
use Rattle.ld_facts.specs.Inside.Places.{arrival, Leaves, Leads}
use Rattle.ld_graph.specs.Walks.{ClosedWalk}
use Rattle.ld_facts.specs.declared.fact.Fact.TheVariants.{Dependency as Depends}
use Rattle.ld_facts.specs.declared.dependency.Dependency.{Dependency}
use Rattle.ld_graph.specs.declared.search.Step.{Step}

-- the members of a walk: as many as there are places, or fewer
pub record AreMembers (members : List Dependency) : Type 0 where
  pub few : length members ≤ MAX_WALK
  pub below : (i : ℕ) (d : Dependency) → slice_get members i ≡ Some d → IsOfManyKeys d

-- ---- ways by arrows
-- the arrows lead in turn from the place p to the place q
abbrev pub GoesTo : (Arrow → Type 0) → ℕ → List Arrow → ℕ → Type 0
GoesTo In p [] q = p ≡ q
GoesTo In p (a ∷ rest) q = In a × Leaves a p × GoesTo In (arrival a) rest q

-- an arrow of the facts leads from p to q, and q is one of those places
abbrev pub Edge : FactParts → List ℕ → ℕ → ℕ → Type 0
Edge facts within p q = Leads (DependenciesOf (HasFact facts)) p q × IsTrue (has_bit within q)

-- q is reached from p by n edges
abbrev pub Reached : (ℕ → ℕ → Type 0) → ℕ → ℕ → ℕ → Type 0
Reached E p zero q = p ≡ q
Reached E p (suc n) q = (m : ℕ) × Reached E p n m × E m q

-- ---- steps
-- what a search has found: its steps, and the places that were seen
pub record SearchParts : Type 0 where
  pub steps : List Step
  pub seen : List ℕ

-- each step but the first arrives at a place of its own, so that there is room for a step to a place that was not seen;
-- and each arrives at a key that there can be
pub record HasRoom (steps : List Step) (seen : List ℕ) : Type 0 where
  pub words : length seen ≡ ROW_WORDS
  pub room : length steps ≤ count_below (has_bit seen) PLACES + 1
  pub below : (i : ℕ) (step : Step) → slice_get steps i ≡ Some step → IsOfKeys step.dependency

-- where a step arrives
abbrev pub stands_at : Step → ℕ
stands_at step = arrival (arrow_of step.dependency)

-- step i arrives at the place p
abbrev pub StandsAt : List Step → ℕ → ℕ → Type 0
StandsAt steps i p = (step : Step) × (slice_get steps i ≡ Some step) × (stands_at step ≡ p)

-- step i arrives at p, and leads back to the first in n steps, each by a dependency of the facts
abbrev pub LeadsBack : FactParts → List Step → ℕ → ℕ → ℕ → Type 0
LeadsBack facts steps zero i p = (i ≡ 0) × StandsAt steps i p
LeadsBack facts steps (suc n) i p = (step : Step) × (slice_get steps i ≡ Some step) × (stands_at step ≡ p) ×
    HasFact facts (Depends step.dependency.from step.dependency.to step.dependency.kind) ×
    ((m : ℕ) × Leaves (arrow_of step.dependency) m × LeadsBack facts steps n step.before m)

-- a step to a place in `within` that wasn't seen is taken; `hit` is whether it is a goal
pub record Pushes (within goal : List ℕ) (step : Step) (old new : SearchParts) (hit : Bool) : Type 0 where
  pub steps_are : new.steps ≡ old.steps ++ step ∷ []
  pub set : IsTrue (has_bit new.seen (stands_at step))
  pub others : (q : ℕ) → ¬ (q ≡ stands_at step) → has_bit new.seen q ≡ has_bit old.seen q
  pub hits : hit ≡ has_bit goal (stands_at step)

-- it is taken, or its place was seen or isn't in `within`, and nothing changes
abbrev pub Visits : (within goal : List ℕ) → Step → (old new : SearchParts) → Bool → Type 0
Visits within goal step old new hit =
    Pushes within goal step old new hit ⊎
    ((new ≡ old) × IsFalse hit ×
    (IsTrue (has_bit within (stands_at step)) → IsTrue (has_bit old.seen (stands_at step))))

-- a step that was taken from step i
abbrev pub IsTakenFrom : FactParts → List Step → ℕ → Step → Type 0
IsTakenFrom facts steps i step =
    HasFact facts (Depends step.dependency.from step.dependency.to step.dependency.kind) ×
    (step.before ≡ i) × ((p : ℕ) × StandsAt steps i p × Leaves (arrow_of step.dependency) p)

-- steps from step i are added, and their places have been seen
pub record Takes (facts : FactParts) (i : ℕ) (old new : SearchParts) : Type 0 where
  pub kept : (j : ℕ) (step : Step) → slice_get old.steps j ≡ Some step → slice_get new.steps j ≡ Some step
  pub longer : length old.steps ≤ length new.steps
  pub fresh : (j : ℕ) (step : Step) → length old.steps ≤ j → slice_get new.steps j ≡ Some step →
      IsTakenFrom facts old.steps i step
  pub seen_kept : (q : ℕ) → IsTrue (has_bit old.seen q) → IsTrue (has_bit new.seen q)
  pub listed : (q : ℕ) → IsTrue (has_bit new.seen q) →
      IsTrue (has_bit old.seen q) ⊎ ((j : ℕ) × StandsAt new.steps j q)

-- none of the places that were newly seen is a goal
abbrev pub Misses : List ℕ → (old new : SearchParts) → Type 0
Misses goal old new = (q : ℕ) → IsTrue (has_bit new.seen q) → IsTrue (has_bit goal q) → IsTrue (has_bit old.seen q)

-- the last step is new, and arrives at a goal
abbrev pub Hits : List ℕ → (old new : SearchParts) → Type 0
Hits goal old new = (length old.steps < length new.steps) ×
    ((q : ℕ) × StandsAt new.steps (length new.steps - 1) q × IsTrue (has_bit goal q))

-- every place that an edge leads to from step i was seen
abbrev pub SeesAllFrom : FactParts → List ℕ → ℕ → List Step → List ℕ → Type 0
SeesAllFrom facts within i steps seen =
    (p q : ℕ) → StandsAt steps i p → Edge facts within p q → IsTrue (has_bit seen q)

-- ---- rounds
-- after n rounds: the steps from `first` to `end` are n steps from the start, the later ones one more; all that the
-- steps below `next` lead to has been seen; and no goal
pub record AreSteps (facts : FactParts) (within goal : List ℕ) (start n first end next : ℕ) (found : SearchParts) : Type 0 where
  pub root : StandsAt found.steps 0 start
  pub listed : (q : ℕ) → IsTrue (has_bit found.seen q) → (i : ℕ) × StandsAt found.steps i q
  pub seen : (i : ℕ) → i < next → SeesAllFrom facts within i found.steps found.seen
  pub reached : (m q : ℕ) → m < n → Reached (Edge facts within) start (suc m) q →
      IsTrue (has_bit found.seen q) × ((i : ℕ) × (i < end) × StandsAt found.steps i q)
  pub layer : (i : ℕ) → first ≤ i → i < end → (p : ℕ) × LeadsBack facts found.steps n i p
  pub newer : (i : ℕ) → end ≤ i → i < length found.steps → (p : ℕ) × LeadsBack facts found.steps (suc n) i p
  pub missed : (q : ℕ) → IsTrue (has_bit found.seen q) → IsFalse (has_bit goal q)
  pub within_steps : end ≤ length found.steps

-- the last step leads back to the start from a goal, in n steps
abbrev pub FindsGoal : FactParts → List ℕ → ℕ → SearchParts → Type 0
FindsGoal facts goal n found = (q : ℕ) × LeadsBack facts found.steps n (length found.steps - 1) q × IsTrue (has_bit goal q)

-- no goal is reached from the start by n edges or fewer, but at least one
abbrev pub NoGoalBy : FactParts → (within goal : List ℕ) → (start n : ℕ) → Type 0
NoGoalBy facts within goal start n = (m q : ℕ) → suc m ≤ n → Reached (Edge facts within) start (suc m) q →
    IsFalse (has_bit goal q)

-- ---- circles through a place
-- a dependency of the facts that arrives at none of the places that are done
abbrev pub Avoids : FactParts → List ℕ → Arrow → Type 0
Avoids facts done d = DependenciesOf (HasFact facts) d × IsFalse (has_bit done (arrival d))

-- each closed strong walk of such dependencies that begins with one that arrives at the place has n members or more
abbrev pub LeastThrough : FactParts → List ℕ → (place n : ℕ) → Type 0
LeastThrough facts done place n = (a : Arrow) (rest : List Arrow) → ClosedWalk (Avoids facts done) a rest →
    arrival a ≡ place → n ≤ length (a ∷ rest)

-- ---- walks that lead back
-- the arrows lead, by one or more, from where l arrives to a place that it leaves
abbrev pub LeadsRound : (Arrow → Type 0) → Arrow → List Arrow → Type 0
LeadsRound In l way = (0 < length way) × ((q : ℕ) × Leaves l q × GoesTo In (arrival l) way q)

-- none that do so are fewer than n
abbrev pub LeastRound : (Arrow → Type 0) → Arrow → ℕ → Type 0
LeastRound In l n = (way : List Arrow) → LeadsRound In l way → n ≤ length way
