-- What a refused output leaves.
use Rattle.lockdep.proofs.Names.{◌<◌, ◌↔◌, ◌≡◌, ◌≤◌, All, Appends, AreSame, Bool, CondenseFault, Condensing, Err, Event, Fact, FactParts, HasFact, IfErr, IsBeforeWriting, IsCrew, IsErrAnd, IsErrOf, IsTextOf, IsWellFormed, List, MAX_EVENTS, MAX_TRACES, MatchResult, Name, Ok, OnOk, Option, Out, OutputView, ReportFault, Result, Run, Step, StopsSettled, StopsText, StopsWriting, StopsWriting-same, TooLong, TracesHave, WriteFault, arith, events_enough, length, no_text_of, refl, subst, sym, ℕ, ⊤}
use Rattle.ld_run.specs.declared.fault.RunFault.TheVariants as run

pub StopsSettled-same : (output : OutputView) (Has More : Fact → Type 0) (keys : ℕ) (A B : List ℕ → Type 0) → AreSame Has More → ((text : List ℕ) → A text → B text) → (old new : Option (List ℕ)) (fault : ReportFault) → StopsSettled output Has keys A old new fault → StopsSettled output More keys B old new fault
StopsSettled-same output Has More keys A B facts same old new (Step trace at fault) stops = absurd stops
StopsSettled-same output Has More keys A B facts same old new (Run fault) stops = absurd stops
StopsSettled-same output Has More keys A B facts same old new (Condensing fault) (is, many, keeps) = (
  is,
  (λ long. let (parts, are, all, more) = many long in (parts, (λ x. ((λ h. (facts x).0 ((are x).0 h)), (λ h. (are x).1 ((facts x).1 h)))), all, more)),
  keeps,
)
StopsSettled-same output Has More keys A B facts same old new (Out fault) stops = StopsWriting-same A B same old new fault stops

-- a condensed trace is too long only for too many facts
pub before-writing : {T : Type 0} (facts : FactParts) (keys : ℕ) → facts.keys ≡ keys → (made : Result T CondenseFault)
    → IfErr made (λ fault. fault ≡ TooLong → MAX_EVENTS < events_enough facts) → IsBeforeWriting (HasFact facts) keys (no_text_of made)
before-writing facts keys all (Ok trace) long = refl
before-writing facts keys all (Err fault) long = λ is. (facts, (λ x. ((λ h. h), (λ h. h))), all, long is)

-- a text that is as said was written, or not: so the output was, if such texts are its texts
module _ (output kind : OutputView) (is : output ≡ kind) (A : List ℕ → Type 0) (traces : List (List Event)) (names : List Name) (same : (text : List ℕ) → A text → IsTextOf kind traces names text) (old new : Option (List ℕ)) where
  text-is : (text : List ℕ) → A text → IsTextOf output traces names text
  text-is text it = subst (λ (o : OutputView). IsTextOf o traces names text) (sym is) (same text it)

  pub written-ok : (r : Result ⊤ WriteFault) (s : Result ⊤ ReportFault) → MatchResult r (λ x. s ≡ Ok x) (λ e. IsErrAnd s (λ f. f ≡ Out e)) → OnOk r ((text : List ℕ) × A text × Appends old new text) → OnOk s ((text : List ℕ) × IsTextOf output traces names text × Appends old new text)
  written-ok (Ok x) s made (text, it, wrote) = subst (λ (t : Result ⊤ ReportFault). OnOk t ((text : List ℕ) × IsTextOf output traces names text × Appends old new text)) (sym made) (text, text-is text it, wrote)
  written-ok (Err fault) (Ok x) made wrote = absurd made
  written-ok (Err fault) (Err f) made wrote = tt

  pub written-err : (Has : Fact → Type 0) (keys : ℕ) (r : Result ⊤ WriteFault) (s : Result ⊤ ReportFault) → MatchResult r (λ x. s ≡ Ok x) (λ e. IsErrAnd s (λ f. f ≡ Out e)) → IfErr r (StopsWriting A old new) → IfErr s (StopsSettled output Has keys (IsTextOf output traces names) old new)
  written-err Has keys (Ok x) s made stops = subst (λ (t : Result ⊤ ReportFault). IfErr t (StopsSettled output Has keys (IsTextOf output traces names) old new)) (sym made) tt
  written-err Has keys (Err fault) (Ok x) made stops = absurd made
  written-err Has keys (Err fault) (Err f) made stops = subst (StopsSettled output Has keys (IsTextOf output traces names) old new) (sym made) (StopsWriting-same A (IsTextOf output traces names) text-is old new fault stops)

-- what is refused for settled facts is refused for their traces
pub StopsText-settled : (output : OutputView) (traces : List (List Event)) (names : List Name) (workers : ℕ) (old new : Option (List ℕ)) → IsCrew workers → length traces ≤ MAX_TRACES → All IsWellFormed traces → (fault : ReportFault) → StopsSettled output (TracesHave traces) (length names) (IsTextOf output traces names) old new fault → StopsText output traces names workers old new fault
StopsText-settled output traces names workers old new crew few well_formed (Step trace at fault) stops = absurd stops
StopsText-settled output traces names workers old new crew few well_formed (Run fault) stops = absurd stops
StopsText-settled output traces names workers old new crew few well_formed (Condensing fault) stops = (crew, few, well_formed, stops.0, stops.1, stops.2)
StopsText-settled output traces names workers old new crew few well_formed (Out fault) stops = (crew, few, well_formed, stops)

module _ (output : OutputView) (traces : List (List Event)) (names : List Name) (workers : ℕ) (old new : Option (List ℕ)) where
  -- an output is refused for the number of workers exactly if there can't be that many
  pub bad_workers_is : (r : Result Bool ReportFault) → OnOk r (IsCrew workers × (length traces ≤ MAX_TRACES)) → IfErr r (StopsText output traces names workers old new) → IsErrOf r (Run run.BadWorkers) ↔ (¬ IsCrew workers)
  bad_workers_is (Ok x) crew stops = (λ e. absurd (cc), λ no. absurd (no crew.0))
  bad_workers_is (Err (Step trace at fault)) crew stops = (λ e. absurd (cc), λ no. absurd (no stops.1.0))
  bad_workers_is (Err (Run run.BadWorkers)) crew stops = (λ e. stops.0, λ no. refl)
  bad_workers_is (Err (Run run.TooManyTraces)) crew stops = (λ e. absurd (cc), λ no. absurd (no stops.0.0))
  bad_workers_is (Err (Run run.Unsettled)) crew stops = (λ e. absurd (cc), λ no. absurd (no stops.0.0))
  bad_workers_is (Err (Run run.Memory)) crew stops = (λ e. absurd (cc), λ no. absurd (no stops.0.0))
  bad_workers_is (Err (Run (run.Refused trace place fault))) crew stops = absurd stops.0
  bad_workers_is (Err (Run run.TooTangled)) crew stops = (λ e. absurd (cc), λ no. absurd (no stops.0.0))
  bad_workers_is (Err (Condensing fault)) crew stops = (λ e. absurd (cc), λ no. absurd (no stops.0))
  bad_workers_is (Err (Out fault)) crew stops = (λ e. absurd (cc), λ no. absurd (no stops.0))

  -- and for the number of traces exactly if there are too many for a crew
  pub too_many_is : (r : Result Bool ReportFault) → OnOk r (IsCrew workers × (length traces ≤ MAX_TRACES)) → IfErr r (StopsText output traces names workers old new) → IsErrOf r (Run run.TooManyTraces) ↔ (IsCrew workers × (MAX_TRACES < length traces))
  too_many_is (Ok x) crew stops = (λ e. absurd (cc), λ more. absurd (omega (arith, crew.1, more.1)))
  too_many_is (Err (Step trace at fault)) crew stops = (λ e. absurd (cc), λ more. absurd (omega (arith, stops.1.1, more.1)))
  too_many_is (Err (Run run.BadWorkers)) crew stops = (λ e. absurd (cc), λ more. absurd (stops.0 more.0))
  too_many_is (Err (Run run.TooManyTraces)) crew stops = (λ e. stops.0, λ more. refl)
  too_many_is (Err (Run run.Unsettled)) crew stops = (λ e. absurd (cc), λ more. absurd (omega (arith, stops.0.1, more.1)))
  too_many_is (Err (Run run.Memory)) crew stops = (λ e. absurd (cc), λ more. absurd (omega (arith, stops.0.1, more.1)))
  too_many_is (Err (Run (run.Refused trace place fault))) crew stops = absurd stops.0
  too_many_is (Err (Run run.TooTangled)) crew stops = (λ e. absurd (cc), λ more. absurd (omega (arith, stops.0.1, more.1)))
  too_many_is (Err (Condensing fault)) crew stops = (λ e. absurd (cc), λ more. absurd (omega (arith, stops.1, more.1)))
  too_many_is (Err (Out fault)) crew stops = (λ e. absurd (cc), λ more. absurd (omega (arith, stops.1, more.1)))

-- what is refused with one number of workers is refused with another, if there can be both or neither
pub StopsText-crew : (output : OutputView) (traces : List (List Event)) (names : List Name) (some others : ℕ) (old new : Option (List ℕ)) → IsCrew some ↔ IsCrew others → (fault : ReportFault) → StopsText output traces names some old new fault → StopsText output traces names others old new fault
StopsText-crew output traces names some others old new same (Step trace at fault) stops = (stops.0, (same.0 stops.1.0, stops.1.1, stops.1.2), stops.2, stops.3)
StopsText-crew output traces names some others old new same (Run run.BadWorkers) stops = (λ crew. stops.0 (same.1 crew), stops.1)
StopsText-crew output traces names some others old new same (Run run.TooManyTraces) stops = ((same.0 stops.0.0, stops.0.1), stops.1)
StopsText-crew output traces names some others old new same (Run run.Unsettled) stops = ((same.0 stops.0.0, stops.0.1, stops.0.2, stops.0.3), stops.1)
StopsText-crew output traces names some others old new same (Run run.Memory) stops = ((same.0 stops.0.0, stops.0.1), stops.1)
StopsText-crew output traces names some others old new same (Run (run.Refused trace place fault)) stops = absurd stops.0
StopsText-crew output traces names some others old new same (Run run.TooTangled) stops = ((same.0 stops.0.0, stops.0.1, stops.0.2, stops.0.3), stops.1)
StopsText-crew output traces names some others old new same (Condensing fault) stops = (same.0 stops.0, stops.1, stops.2, stops.3, stops.4, stops.5)
StopsText-crew output traces names some others old new same (Out fault) stops = (same.0 stops.0, stops.1, stops.2, stops.3)
