-- A book settles exactly with tallies of the same facts.
use Rattle.ld_run.proofs.Names.{◌↔◌, ◌∙◌, ◌≡◌, ◌≤◌, AreSame, CompletesRun, EndsRun, Err, Event, FactParts, HasFact, IfErr, IfOk, IsCrew, IsFirstRefused, List, MAX_TRACES, Ok, Result, StepAt, StopsRun, length, subst, sym, ℕ, IsErr}
use Rattle.std.specs.Prelude.{IsErrAnd}
use Rattle.ld_book.specs.Books.{BookParts, JournalHas}
use Rattle.ld_run.specs.Settling.{Settles}
use Rattle.ld_run.specs.declared.fault.RunFault.{RunFault}
use Rattle.ld_run.specs.declared.fault.RunFault.TheVariants.{Unsettled, Refused}
use Rattle.ld_trace.specs.declared.key_id.TheConstants.{GRAPH_KEYS}

pub settles-same : (book : BookParts) (facts tallies : FactParts) → facts.keys ≡ book.keys → AreSame (HasFact facts) (JournalHas book.journal) → ((facts.keys ≡ tallies.keys) × AreSame (HasFact facts) (HasFact tallies)) ↔ Settles book tallies
settles-same book facts tallies keys facts_are = (
  λ (same_keys, same). record {
    keys = sym keys ∙ same_keys;
    facts = λ x. ((λ h. (facts_are x).0 ((same x).1 h)), (λ r. (same x).0 ((facts_are x).1 r)));
  },
  λ settles. (
    keys ∙ settles.keys,
    λ x. (
      (λ h. (settles.facts x).1 ((facts_are x).0 h)),
      (λ h. (facts_are x).1 ((settles.facts x).0 h)),
    ),
  ),
)

-- settling with the tally of all traces ends the run
pub settled_ends : (traces : List (List Event)) (keys workers : ℕ) (facts : FactParts) (r : Result FactParts RunFault) → IfOk r (λ settled. settled ≡ facts) → IfErr r (λ fault. fault ≡ Unsettled) → keys ≤ GRAPH_KEYS → CompletesRun traces workers facts → EndsRun traces keys workers r
settled_ends traces keys workers facts (Ok settled) same none low completed = subst (CompletesRun traces workers) (sym same) completed
settled_ends traces keys workers facts (Err fault) none is low completed =
    subst (StopsRun traces keys workers) (sym is) (completed.crew, completed.few, completed.well_formed, low)

-- a trace that isn't well formed ends the run
pub refused_ends : (traces : List (List Event)) (keys workers : ℕ) (trace : ℕ) (first : StepAt) (fault : RunFault) → fault ≡ Refused trace first.place first.fault → IsCrew workers → length traces ≤ MAX_TRACES → IsFirstRefused traces trace first → StopsRun traces keys workers fault
refused_ends traces keys workers trace first fault is crew few refused = subst (StopsRun traces keys workers) (sym is) (crew, few, refused)

-- what the end says of each outcome
pub ends_ok : (traces : List (List Event)) (keys workers : ℕ) (r : Result FactParts RunFault) → EndsRun traces keys workers r → IfOk r (CompletesRun traces workers)
ends_ok traces keys workers (Ok facts) ends = ends
ends_ok traces keys workers (Err fault) ends = tt

pub ends_err : (traces : List (List Event)) (keys workers : ℕ) (r : Result FactParts RunFault) → EndsRun traces keys workers r → IfErr r (StopsRun traces keys workers)
ends_err traces keys workers (Ok facts) ends = tt
ends_err traces keys workers (Err fault) ends = ends

-- a fault that is passed on ends the run in the same way
pub passed_err : {T : Type 0} (passed : Result T RunFault) (fault : RunFault) (P : RunFault → Type 0) →
    IsErr passed × IsErrAnd passed (λ e. e ≡ fault) → P fault → IfErr passed P
passed_err (Ok x) fault P is stops = tt
passed_err (Err e) fault P is stops = subst P (sym is.1) stops
