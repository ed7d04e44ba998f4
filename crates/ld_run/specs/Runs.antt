-- How a run ends [this project's own].
use Rattle.std.specs.Prelude.{ℕ, ◌<◌, ◌≤◌, List, All, length, Result, Ok, Err}
use Rattle.ld_trace.specs.declared.event.Event.{Event}
use Rattle.ld_task.specs.WellFormed.{IsWellFormed}
use Rattle.ld_facts.specs.FactBits.{FactParts, HasFact}
use Rattle.ld_facts.specs.Facts.{AreSame}
use Rattle.ld_facts.specs.Renaming.{TracesHaveBy}
use Rattle.ld_facts.specs.TraceFacts.{TracesHave, IsFirstRefused}
use Rattle.ld_run.specs.declared.fault.RunFault.{RunFault}
use Rattle.ld_run.specs.declared.fault.RunFault.TheVariants.{BadWorkers, TooManyTraces, Unsettled, Memory, Refused, TooTangled}
use Rattle.ld_run.specs.declared.runs.TheConstants.{MAX_WORKERS}
use Rattle.ld_trace.specs.declared.key_id.TheConstants.{GRAPH_KEYS}
use Rattle.ld_trace.specs.declared.raw_trace.TheConstants.{MAX_TRACES}

-- there can be this many workers
abbrev pub IsCrew : ℕ → Type 0
IsCrew workers = (1 ≤ workers) × (workers ≤ MAX_WORKERS)

-- the run of this many workers over these traces is completed with these facts: exactly those of all the traces together
pub record CompletesRun (traces : List (List Event)) (workers : ℕ) (facts : FactParts) : Type 0 where
  pub crew : IsCrew workers
  pub few : length traces ≤ MAX_TRACES
  pub well_formed : All IsWellFormed traces
  pub facts_are : AreSame (HasFact facts) (TracesHave traces)

-- the same by what the keys of the traces are called
pub record CompletesRunBy (rename : ℕ → ℕ) (traces : List (List Event)) (workers : ℕ) (facts : FactParts) : Type 0 where
  pub crew : IsCrew workers
  pub few : length traces ≤ MAX_TRACES
  pub well_formed : All IsWellFormed traces
  pub facts_are : AreSame (HasFact facts) (TracesHaveBy rename traces)

-- the run of this many workers over these traces of this many keys was refused: because of the number of workers;
-- because of the number of traces; at the first trace that isn't well formed, with its first event that isn't allowed;
-- because memory was refused; because the facts differ, and at most 256 keys; or because the keys are tangled, and more
-- than 256. The last two only happen if all traces are well formed
abbrev pub StopsRun : List (List Event) → (keys workers : ℕ) → RunFault → Type 0
StopsRun traces keys workers BadWorkers = ¬ IsCrew workers
StopsRun traces keys workers TooManyTraces = IsCrew workers × (MAX_TRACES < length traces)
StopsRun traces keys workers Unsettled =
    IsCrew workers × (length traces ≤ MAX_TRACES) × All IsWellFormed traces × (keys ≤ GRAPH_KEYS)
StopsRun traces keys workers Memory = IsCrew workers × (length traces ≤ MAX_TRACES)
StopsRun traces keys workers (Refused trace place fault) =
    IsCrew workers × (length traces ≤ MAX_TRACES) ×
    IsFirstRefused traces trace (record { fault = fault; place = place })
StopsRun traces keys workers TooTangled =
    IsCrew workers × (length traces ≤ MAX_TRACES) × All IsWellFormed traces × (GRAPH_KEYS < keys)

-- the run ended in this way
abbrev pub EndsRun : List (List Event) → (keys workers : ℕ) → Result FactParts RunFault → Type 0
EndsRun traces keys workers (Ok facts) = CompletesRun traces workers facts
EndsRun traces keys workers (Err fault) = StopsRun traces keys workers fault
