-- What a refused output leaves [this project's own].
use Rattle.std.specs.Prelude.{◌+◌, ◌<◌, ◌≡◌, ◌≤◌, All, List, Option, length, ℕ}
use Rattle.lockdep.specs.Names.{AreSame, CondenseFault, Event, Fact, FactParts, HasFact, IsCrew, IsWellFormed, Keeps, MAX_EVENTS, MAX_TRACES, Memory, Name, Refused, RunFault, StopsRun, StopsWriting, TooLong, TracesHave, events_enough}
use Rattle.lockdep.specs.Texts.{OutputView, report, condensed, IsTextOf}
use Rattle.lockdep.specs.declared.fault.ReportFault.{ReportFault}
use Rattle.lockdep.specs.declared.fault.ReportFault.TheVariants.{Step, Run, Condensing, Out}

-- these facts of this number of keys may take more events than a trace may have
abbrev pub AreTooMany : (Has : Fact → Type 0) → (keys : ℕ) → Type 0
AreTooMany Has keys = (facts : FactParts) × AreSame (HasFact facts) Has × (facts.keys ≡ keys) × (MAX_EVENTS < events_enough facts)

-- condensing the facts was refused in this way: for a trace that is too long only if they are too many
abbrev pub StopsCondensing : (Has : Fact → Type 0) → (keys : ℕ) → CondenseFault → Type 0
StopsCondensing Has keys fault = fault ≡ TooLong → AreTooMany Has keys

-- the output of settled facts was refused in this way: in condensing them, if it is the condensed trace, and then nothing
-- was written; or in writing a text that is as said
abbrev pub StopsSettled : OutputView → (Has : Fact → Type 0) → (keys : ℕ) → (List ℕ → Type 0) → (old new : Option (List ℕ)) → ReportFault → Type 0
StopsSettled output Has keys IsText old new (Step trace at fault) = ⊥
StopsSettled output Has keys IsText old new (Run fault) = ⊥
StopsSettled output Has keys IsText old new (Condensing fault) = (output ≡ condensed) × StopsCondensing Has keys fault × Keeps old new
StopsSettled output Has keys IsText old new (Out fault) = StopsWriting IsText old new fault

-- condensing was refused, or memory ran out for the text, so that there was nothing to write
abbrev pub IsBeforeWriting : (Has : Fact → Type 0) → (keys : ℕ) → ReportFault → Type 0
IsBeforeWriting Has keys (Step trace at fault) = ⊥
IsBeforeWriting Has keys (Run fault) = ⊥
IsBeforeWriting Has keys (Condensing fault) = StopsCondensing Has keys fault
IsBeforeWriting Has keys (Out fault) = fault ≡ Memory

-- the run was refused in this way, and not for a trace that isn't well formed
abbrev pub StopsOtherwise : List (List Event) → (keys workers : ℕ) → RunFault → Type 0
StopsOtherwise traces keys workers (Refused trace place fault) = ⊥
StopsOtherwise traces keys workers fault = StopsRun traces keys workers fault

-- the output of these traces, with this number of workers, was refused in this way: by the first trace that isn't well
-- formed, with the record of its first event that isn't allowed; by the run for another reason; in condensing, if the
-- output is the condensed trace; or in writing
abbrev pub StopsText : OutputView → List (List Event) → List Name → (workers : ℕ) → (old new : Option (List ℕ)) → ReportFault → Type 0
StopsText output traces names workers old new (Step trace at fault) =
    (place : ℕ) × StopsRun traces (length names) workers (Refused trace place fault) × (at ≡ place + 2) × Keeps old new
StopsText output traces names workers old new (Run fault) = StopsOtherwise traces (length names) workers fault × Keeps old new
StopsText output traces names workers old new (Condensing fault) = IsCrew workers × (length traces ≤ MAX_TRACES)
    × All IsWellFormed traces × (output ≡ condensed) × StopsCondensing (TracesHave traces) (length names) fault × Keeps old new
StopsText output traces names workers old new (Out fault) = IsCrew workers × (length traces ≤ MAX_TRACES)
    × All IsWellFormed traces × StopsWriting (IsTextOf output traces names) old new fault

-- the report was refused in this way
abbrev pub StopsReport : List (List Event) → List Name → ℕ → (old new : Option (List ℕ)) → ReportFault → Type 0
StopsReport traces names = StopsText report traces names
