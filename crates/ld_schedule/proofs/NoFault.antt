-- Steps without a fault, one after another.
use Rattle.ld_schedule.proofs.Names.{AreGivings, AreReleases, AreTakings, IsHistory, ◌∙◌, Action, ap, Does, GivenTwice, IsAbout, IsAboutLock, IsFaultAt, IsOf, List, NEVER, NoMessageFault, NoTakingFault, NoneFaultyBefore, NotGiven, NotHeld, Step, StepFault, TakenAgain, TakenByAnother, Vec, arith, cases_lt, get_or, get_or-replicate, inl, inr, length, length-replicate, replicate, subst, sym, ℕ, ◌+◌, ◌<◌, ◌≡◌, []}
use Rattle.ld_schedule.specs.Inside.HistoryTables.{HaveTables, IsEmptyFor}

pub none_faulty_more : (h : List Step) (n : ℕ) → NoneFaultyBefore h n → NoTakingFault h n → NoMessageFault h n →
    NoneFaultyBefore h (n + 1)
none_faulty_more h n none takings messages p upto fault = elim (cases_lt p n) [
  | inl before ↦ none p before fault
  | inr late ↦ let e : n ≡ p = omega arith in subst (λ x. ¬ IsFaultAt h x fault) e (at_n fault)
]
  where
    at_n : (f : StepFault) → ¬ IsFaultAt h n f
    at_n TakenByAnother = takings.not_by_another
    at_n TakenAgain = takings.not_again
    at_n NotHeld = takings.is_held
    at_n GivenTwice = messages.0
    at_n NotGiven = messages.1

-- before the first step
pub AreTakings-none : (h : List Step) («open» : List (Vec ℕ)) (releases : List ℕ) (locks : ℕ) →
    ((p task : ℕ) (action : Action) (lock : ℕ) → Does h p task action → IsAboutLock action lock → lock < locks) →
    IsEmptyFor locks «open» releases → AreTakings h 0 «open» releases
AreTakings-none h «open» releases locks room empty = record {
  room = λ p task action lock does about. let r = room p task action lock does about in let n = empty.as_many in omega arith;
  as_many = ap length empty.none_released;
  releases_are = λ q task lock mode before takes. absurd (omega arith);
  open_are = λ lock d within.
      let none : (get_or «open» lock d).items ≡ [] = empty.none_open lock d within in
      record {
        sound = λ k e among. absurd (omega (arith, ap length none));
        apart = λ i j e before among. absurd (omega (arith, ap length none));
        complete = λ q task mode before takes never. absurd (omega arith);
      };
}

pub AreGivings-none : (h : List Step) (messages : ℕ) →
    ((p task : ℕ) (action : Action) (message : ℕ) → Does h p task action → IsAbout action message → message < messages) →
    AreGivings h 0 (replicate messages NEVER)
AreGivings-none h messages room = record {
  room = λ p task action message does about. let r = room p task action message does about in omega (arith, length-replicate messages NEVER);
  each = λ q giver message before gives. absurd (omega arith);
  only = λ message within. inl (get_or-replicate messages message NEVER 0 (omega (arith, length-replicate messages NEVER)));
}

-- the tables of a history, where each value is stored under another name
pub IsHistory-from : (h counted gone : List Step) («open» : List (Vec ℕ)) (releases kept_releases givings kept_givings : List ℕ)
    (tasks locks : ℕ) → counted ≡ h → gone ≡ h → kept_releases ≡ releases → kept_givings ≡ givings → length h < NEVER →
    ((p task : ℕ) → IsOf counted task p → task < tasks) →
    ((p task : ℕ) (action : Action) (lock : ℕ) → Does counted p task action → IsAboutLock action lock → lock < locks) → HaveTables gone «open» releases givings →
    IsHistory h kept_releases kept_givings tasks locks
IsHistory-from h counted gone «open» releases kept_releases givings kept_givings tasks locks c g r m few below locks_below tables =
    let tables' = subst (λ x. HaveTables x «open» releases givings) g tables in
    let t = tables'.takings_are in
    record {
      well_formed = tables'.well_formed;
      as_many = ap length r ∙ t.as_many;
      releases_are = subst (AreReleases h (length h)) (sym r) t.releases_are;
      givings_are = subst (AreGivings h (length h)) (sym m) tables'.givings_are;
      tasks_below = subst (λ x. (p task : ℕ) → IsOf x task p → task < tasks) c below;
      locks_below = subst (λ x. (p task : ℕ) (action : Action) (lock : ℕ) → Does x p task action → IsAboutLock action lock → lock < locks) c locks_below;
      few = few;
    }
