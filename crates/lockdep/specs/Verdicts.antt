-- What `explain --locks` writes: the findings between types, each with what it was seen between [this project's own].
use Rattle.std.specs.Prelude.{◌≡◌, ◌≤◌, All, Bool, List, Option, length, slice_index, true, ℕ}
use Rattle.lockdep.specs.Names.{Appends, AreVerdictsOf, AreWhereabouts, Event, Format, IsCrew, IsWellFormed, Keeps, KeepsCircles, MAX_TRACES, Name, RunFault, StopsWriting, Text, Types, Unsettled, Verdict, Whereabouts, has_finding, lock_sources, names_at, numbers_at, type_sources, verdict_json, verdicts_text}
use Rattle.ld_text.specs.declared.findings.Format.TheVariants as format
use Rattle.ld_text.specs.declared.verdicts.VerdictFormat.TheVariants as verdict_format
use Rattle.lockdep.specs.Faults.{StopsOtherwise, StopsReport}
use Rattle.lockdep.specs.declared.fault.ReportFault.{ReportFault}
use Rattle.lockdep.specs.declared.fault.ReportFault.TheVariants.{Condensing, Out, Run, Step}

-- the type of each lock that has one of these names
abbrev pub type_numbers : List Name → List ℕ
type_numbers names = numbers_at Types names (names_at Types names)

-- the text says these verdicts of traces, whose locks have these names: as lines, or as JSON with the whereabouts of the verdicts
abbrev pub IsTextOfVerdicts : Format → List (List Event) → List Name → List Text → List Verdict → List ℕ → Type 0
IsTextOfVerdicts format.Lines traces names files verdicts text =
    text ≡ verdicts_text verdict_format.Lines traces (names_at Types names) names files verdicts
IsTextOfVerdicts format.Json traces names files verdicts text = (w : Whereabouts)
    × AreWhereabouts traces (slice_index (type_numbers names)) verdicts w
    × (text ≡ verdict_json (type_sources traces (names_at Types names) names files true w.types) (lock_sources traces names files true w.locks)
    verdicts w.ends.items)

-- the text says the verdicts of these traces
abbrev pub SaysVerdicts : Format → List (List Event) → List Name → List Text → List ℕ → Type 0
SaysVerdicts format traces names files text =
    (verdicts : List Verdict) × AreVerdictsOf traces names verdicts × IsTextOfVerdicts format traces names files verdicts text

-- the verdicts of the traces were written, and this is whether one of them counts
pub record WritesVerdicts (format : Format) (confirmed_only : Bool) (files : List Text) (names : List Name) (traces : List (List Event))
    (old new : Option (List ℕ)) (found : Bool) : Type 0 where
  pub verdicts : List Verdict
  pub verdicts_are : AreVerdictsOf traces names verdicts
  pub kept : KeepsCircles traces names verdicts
  pub text : List ℕ
  pub text_is : IsTextOfVerdicts format traces names files verdicts text
  pub wrote : Appends old new text
  pub found_is : found ≡ has_finding confirmed_only verdicts

-- the traces weren't settled at each level, for this reason: the keys that may be tangled are the types, and facts of several workers
-- aren't compared
abbrev pub StopsLevels : List (List Event) → List Name → (workers : ℕ) → RunFault → Type 0
StopsLevels traces names workers Unsettled = ⊥
StopsLevels traces names workers fault = StopsOtherwise traces (length (names_at Types names)) workers fault

-- they were refused in this way: before they were known as a report is, or in writing them
abbrev pub StopsVerdicts : Format → List Text → List Name → List (List Event) → (workers : ℕ) → (old new : Option (List ℕ)) → ReportFault → Type 0
StopsVerdicts format files names traces workers old new (Step trace at fault) = StopsReport traces names workers old new (Step trace at fault)
StopsVerdicts format files names traces workers old new (Run fault) = StopsLevels traces names workers fault × Keeps old new
StopsVerdicts format files names traces workers old new (Condensing fault) = ⊥
StopsVerdicts format files names traces workers old new (Out fault) = IsCrew workers × (length traces ≤ MAX_TRACES)
    × All IsWellFormed traces × StopsWriting (SaysVerdicts format traces names files) old new fault
