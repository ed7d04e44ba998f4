-- The tally of all traces, and what it says of them.
use Rattle.ld_run.proofs.Names.{[], ◌<◌, ◌↔◌, ◌∙◌, ◌∷◌, ◌≤◌, All, Any, AreWellFormed, BeginningsKeepTheirChains, CompletesRun, Event, Every, FactParts, HasBeforeFault, IsCrew, IsFirstRefused, IsTally, IsWellFormed, List, MAX_TRACES, None, OfSome, Some, StepAt, TraceFactsAreTheChains, TraceHas, arith, get_or_from_slice_get, length, refl, slice_get-get_or, slice_get_read, slice_get_within, slice_index_or, suc, sym, take, zero, ℕ}
use Rattle.ld_run.proofs.BeforeFaults.{before_fault-all, slice_get-take}

module _ (traces : List (List Event)) (facts : FactParts) where
  all_well_formed : AreWellFormed traces Every → All IsWellFormed traces
  all_well_formed well k d l = well k (slice_index_or traces k d) tt (slice_get-get_or traces k d l)

  of_all : (P Q : List Event → Type 0) → ((t : List Event) → IsWellFormed t → P t ↔ Q t) → AreWellFormed traces Every → OfSome traces Every P ↔ Any Q traces
  of_all P Q law well = (
    (λ (i, t, every, at, has). (i, t, slice_get_within traces i t at, get_or_from_slice_get traces i t t at, (law t (well i t every at)).0 has)),
    (λ (k, t, l, is, has). let at = slice_get_read traces (length traces) k t refl l (sym is) in (k, t, tt, at, (law t (well k t tt at)).1 has)),
  )

  -- if all are well formed, their facts are those of the traces
  pub completes : (workers : ℕ) → TraceFactsAreTheChains → BeginningsKeepTheirChains → IsCrew workers → length traces ≤ MAX_TRACES → IsTally traces facts None → CompletesRun traces workers facts
  completes workers chain_facts keep crew few tally = record {
    crew = crew;
    few = few;
    well_formed = all_well_formed tally.refused_is;
    facts_are = λ x.
        let of = of_all (λ t. HasBeforeFault t x) (λ t. TraceHas t x) (λ t well. before_fault-all chain_facts keep t well x) tally.refused_is in
        ((λ h. of.0 ((tally.facts_are x).0 h)), (λ h. (tally.facts_are x).1 (of.1 h)));
  }

  length_take : {A : Type 0} (xs : List A) (k : ℕ) → length (take k xs) ≤ k
  length_take [] zero = omega arith
  length_take [] (suc k) = omega arith
  length_take (x ∷ xs) zero = omega arith
  length_take (x ∷ xs) (suc k) = let r = length_take xs k in omega (arith, r)

  -- otherwise the first that isn't was found
  pub first_refused : (trace : ℕ) (first : StepAt) → IsTally traces facts (Some (trace, first)) → IsFirstRefused traces trace first
  first_refused trace first tally =
      let least = tally.refused_is in
      record {
        refused = least.0.refused;
        at = least.0.at;
        fault = least.0.fault;
        before = λ k d l.
            let few = length_take traces trace in
            let below : k < trace = omega (arith, l, few) in
            least.1 k (slice_index_or (take trace traces) k d) (tt, below)
            (sym (slice_get-take traces trace k below) ∙ slice_get-get_or (take trace traces) k d l);
      }
