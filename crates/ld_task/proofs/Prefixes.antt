-- The first events of a trace, and how one more continues them.
use Rattle.ld_task.proofs.Names.{[], ◌++◌, ◌+◌, ◌<◌, ◌∙◌, ◌∷◌, ◌≡◌, ChainParts, EndState, Err, Event, GoesOn, IsFirstFault, IsWellFormed, List, Ok, Option, Result, Some, StepFault, StepsTo, ap, arith, cases_eq, chain, end_state, event, fault, inl, inr, length, length-take-le, option_to_list, refl, slice_get, slice_get_within, subst, suc, sym, take, zero, ℕ}
use Rattle.ld_task.specs.EndState.{state_at}
use Rattle.ld_task.specs.TraceChains.{chains}
use Rattle.ld_task.proofs.TraceLemmas.{Agree, fault-agree, state_at-agree}
use Rattle.ld_task.proofs.NextPosition.{AllowedTo}
use Rattle.ld_task.proofs.ChainLists.{chain-agree, chains-snoc}
use Rattle.ld_task.proofs.Places.{slice_get-append_left, slice_get-append_seam}

pub slice_get-take : {A : Type 0} (xs : List A) (i k : ℕ) → k < i → slice_get (take i xs) k ≡ slice_get xs k
slice_get-take [] zero k l = absurd (omega arith)
slice_get-take [] (suc i) k l = refl
slice_get-take (x ∷ xs) zero k l = absurd (omega arith)
slice_get-take (x ∷ xs) (suc i) zero l = refl
slice_get-take (x ∷ xs) (suc i) (suc k) l = slice_get-take xs i k (omega arith)

-- one element more
take-suc_get : {A : Type 0} (xs : List A) (i : ℕ) (x : A) → slice_get xs i ≡ Some x → take (suc i) xs ≡ take i xs ++ x ∷ []
take-suc_get [] i x e = absurd (cc)
take-suc_get (y ∷ xs) zero x e = let same : y ≡ x = cc in ap (λ z. z ∷ []) same
take-suc_get (y ∷ xs) (suc i) x e = ap (λ z. y ∷ z) (take-suc_get xs i x e)

pub well_formed-nil : IsWellFormed []
well_formed-nil = record { allowed = λ j l. absurd (omega arith) }

module _ (t : List Event) (i : ℕ) (e : Event) (here : slice_get t i ≡ Some e) where
  in_range : i < length t
  in_range = slice_get_within t i e here

  taken : length (take i t) ≡ i
  taken = length-take-le i t (omega (arith, in_range))

  abbrev longer : List Event
  longer = take i t ++ e ∷ []

  longer-is : longer ≡ take (i + 1) t
  longer-is = sym (take-suc_get t i e here) ∙ (let one : suc i ≡ i + 1 = omega arith in ap (λ n. take n t) one)

  extended : Agree longer t i
  extended = record { same = λ k l. slice_get-append_left (take i t) (e ∷ []) k (omega (arith, taken)) ∙ slice_get-take t i k l }

  last : event longer i ≡ event t i
  last = subst (λ n. event longer n ≡ event t i) taken (slice_get-append_seam (take i t) e ∙ sym here)

  -- the fault found at the end of the prefix is the whole trace's there
  fault-here : fault longer (length (take i t)) ≡ fault t i
  fault-here = ap (fault longer) taken ∙ fault-agree longer t i extended last

  refused-here : (f : StepFault) → IsWellFormed (take i t) → fault longer (length (take i t)) ≡ Some f → IsFirstFault t (record { fault = f; place = i })
  refused-here f well refused = record {
    in_range = in_range;
    refused = sym fault-here ∙ refused;
    first = λ j l. sym (fault-agree (take i t) t j (record { same = λ k m. slice_get-take t i k (omega arith) }) (slice_get-take t i j l)) ∙ well.allowed j (omega (arith, taken));
  }

  -- a step from the first events is a step along the trace
  pub steps-go_on : (new : EndState) (r : Result (Option ChainParts) StepFault) → IsWellFormed (take i t) → StepsTo (take i t) e new r → GoesOn t i new r
  steps-go_on new (Err f) well step = refused-here f well step
  steps-go_on new (Ok answer) well step = (
    record { well_formed = subst IsWellFormed longer-is step.0; is_end = step.1 ∙ ap end_state longer-is },
    sym (ap chains longer-is) ∙ chains-snoc (take i t) e ∙ ap (λ o. chains (take i t) ++ option_to_list o) (sym step.2),
  )

  -- the events before are allowed along the trace
  pub allowed-before : IsWellFormed (take i t) → AllowedTo t i
  allowed-before well = record {
    allowed = λ j l. sym (fault-agree (take i t) t j (record { same = λ k m. slice_get-take t i k (omega arith) }) (slice_get-take t i j l)) ∙ well.allowed j (omega (arith, taken));
  }

  taken-through : length (take (suc i) t) ≡ suc i
  taken-through = length-take-le (suc i) t in_range

  pub allowed-through : IsWellFormed (take (suc i) t) → AllowedTo t (suc i)
  allowed-through well = record {
    allowed = λ j l. sym (fault-agree (take (suc i) t) t j (record { same = λ k m. slice_get-take t (suc i) k (omega arith) }) (slice_get-take t (suc i) j l)) ∙ well.allowed j (omega (arith, taken-through));
  }

  -- the end states of the first events are the states along the trace
  pub state-here : end_state (take i t) ≡ state_at t i
  state-here = ap (state_at (take i t)) taken ∙ state_at-agree (take i t) t i (record { same = λ k l. slice_get-take t i k l }) i (omega arith)

  pub state-through : end_state (take (i + 1) t) ≡ state_at t (i + 1)
  state-through =
      let one : i + 1 ≡ suc i = omega arith in
      ap (λ n. end_state (take n t)) one ∙ ap (state_at (take (suc i) t)) taken-through
      ∙ state_at-agree (take (suc i) t) t (suc i) (record { same = λ k l. slice_get-take t (suc i) k l }) (suc i) (omega arith) ∙ ap (state_at t) (sym one)

  -- the chain at the end of the longer prefix is the whole trace's there
  pub chain-here : chain longer (length (take i t)) ≡ chain t i
  chain-here = ap (chain longer) taken ∙ chain-agree longer t (suc i) (record { same = λ k l. through k l }) i (omega arith)
    where
      through : (k : ℕ) → k < suc i → event longer k ≡ event t k
      through k l = elim (cases_eq k i) [
        | inl e ↦ ap (event longer) e ∙ last ∙ ap (event t) (sym e)
        | inr ne ↦ extended.same k (omega (arith, l, ne))
      ]
