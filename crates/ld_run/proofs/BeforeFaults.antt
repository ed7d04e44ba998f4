-- The facts of a trace before its first event that isn't allowed.
use Rattle.ld_run.proofs.Names.{[], ◌<◌, ◌∙◌, ◌∷◌, ◌≡◌, ◌≤◌, ◌⊎◌, AreSame, BeginningsKeepTheirChains, BeginningsKeepTheirFaults, ChainsHave, Event, Fact, HasBeforeFault, Holds, IsFirstFault, IsWellFormed, List, None, Some, StepFault, TraceFactsAreTheChains, TraceHas, arith, cases_lt, inl, inr, length, refl, slice_get, subst, suc, sym, take, take_all, zero, ℕ}
use Rattle.ld_task.specs.TraceChains.{chains}

pub slice_get-take : {A : Type 0} (xs : List A) (i k : ℕ) → k < i → slice_get (take i xs) k ≡ slice_get xs k
slice_get-take [] zero k l = absurd (omega arith)
slice_get-take [] (suc i) k l = refl
slice_get-take (x ∷ xs) zero k l = absurd (omega arith)
slice_get-take (x ∷ xs) (suc i) zero l = refl
slice_get-take (x ∷ xs) (suc i) (suc k) l = slice_get-take xs i k (omega arith)

within_take : {A : Type 0} (xs : List A) (k i : ℕ) → i < k → i < length xs → i < length (take k xs)
within_take [] k i l w = absurd (omega (arith, w))
within_take (x ∷ xs) zero i l w = absurd (omega arith)
within_take (x ∷ xs) (suc k) zero l w = omega arith
within_take (x ∷ xs) (suc k) (suc i) l w = let r = within_take xs k i (omega arith) (omega (arith, w)) in omega (arith, r)

-- the n first events are well formed, and no longer beginning is
record IsLongest (t : List Event) (n : ℕ) : Type 0 where
  well_formed : IsWellFormed (take n t)
  longest : (m : ℕ) → IsWellFormed (take m t) → (m ≤ n) ⊎ (take m t ≡ take n t)

longest-whole : (t : List Event) (n : ℕ) → length t ≤ n → IsWellFormed (take n t) → IsLongest t n
longest-whole t n l well = record {
  well_formed = well;
  longest = λ m w. elim (cases_lt n m) [
    | inr early ↦ inl (omega (arith, early))
    | inl past ↦ inr (take_all m t (omega (arith, l, past)) ∙ sym (take_all n t l))
  ];
}

none_some : {x : StepFault} → None ≡ Some x → ⊥
none_some e = cc

-- a well-formed beginning ends at or before the first event that isn't allowed
longest-refused : BeginningsKeepTheirFaults → (t : List Event) (n : ℕ) (f : StepFault) → IsWellFormed (take n t) → IsFirstFault t (record { fault = f; place = n }) → IsLongest t n
longest-refused keep t n f well first = record {
  well_formed = well;
  longest = λ m w. inl (elim (cases_lt n m) [
    | inr early ↦ omega (arith, early)
    | inl past ↦ absurd (none_some (sym (w.allowed n (within_take t m n past first.in_range)) ∙ keep t m n past ∙ first.refused))
  ]);
}

-- the facts of the longest well-formed beginning's chains are those before the first event that isn't allowed
module _ (chain_facts : TraceFactsAreTheChains) (keep : BeginningsKeepTheirChains) (t : List Event) (n : ℕ) (long : IsLongest t n) where
  of_longest : (x : Fact) (m : ℕ) → IsWellFormed (take m t) → ChainsHave (chains (take m t)) x → ChainsHave (chains (take n t)) x
  of_longest x m w any = elim (long.longest m w) [
    | inr same ↦ subst (λ u. ChainsHave (chains u) x) same any
    | inl l ↦ (let (k, c, within, is, has) = any in let (k', within', is') = keep t m n l c (k, within, is) in (k', c, within', is', has))
  ]

  before_fault : AreSame (ChainsHave (chains (take n t))) (HasBeforeFault t)
  before_fault x = (
    (λ any. (n, long.well_formed, (chain_facts (take n t) x).1 any)),
    (λ (m, well, has). of_longest x m well ((chain_facts (take m t) x).0 has)),
  )

-- of a trace that was walked up to its first event that isn't allowed
pub before_fault-refused : TraceFactsAreTheChains → BeginningsKeepTheirChains → BeginningsKeepTheirFaults → (t : List Event) (n : ℕ) (f : StepFault) → IsWellFormed (take n t) → IsFirstFault t (record { fault = f; place = n }) → AreSame (ChainsHave (chains (take n t))) (HasBeforeFault t)
before_fault-refused chain_facts keep keep_faults t n f well first = before_fault chain_facts keep t n (longest-refused keep_faults t n f well first)

-- of a trace that was walked to its end
pub before_fault-whole : TraceFactsAreTheChains → BeginningsKeepTheirChains → (t : List Event) (n : ℕ) → length t ≤ n → IsWellFormed (take n t) → AreSame (ChainsHave (chains (take n t))) (HasBeforeFault t)
before_fault-whole chain_facts keep t n l well = before_fault chain_facts keep t n (longest-whole t n l well)

-- of a well-formed trace they are those of the whole
pub before_fault-all : TraceFactsAreTheChains → BeginningsKeepTheirChains → (t : List Event) → IsWellFormed t → AreSame (HasBeforeFault t) (TraceHas t)
before_fault-all chain_facts keep t well x =
    let all = take_all (length t) t (omega arith) in
    let beginning = subst IsWellFormed (sym all) well in
    let same = before_fault-whole chain_facts keep t (length t) (omega arith) beginning x in (
      (λ h. subst (λ u. TraceHas u x) all ((chain_facts (take (length t) t) x).1 (same.1 h))),
      (λ h. (length t, beginning, subst (λ u. TraceHas u x) (sym all) h)),
    )

-- a well-formed beginning's chains have no others
pub beginning_has : TraceFactsAreTheChains → (t : List Event) (n : ℕ) → IsWellFormed (take n t) → Holds (HasBeforeFault t) (ChainsHave (chains (take n t)))
beginning_has chain_facts t n well x any = (n, well, (chain_facts (take n t) x).1 any)
