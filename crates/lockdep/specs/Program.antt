-- What the program does for a command line [this project's own].
use Rattle.std.specs.Prelude.{[], ◌+◌, ◌<◌, ◌||◌, ◌↔◌, ◌∷◌, ◌≡◌, ◌≤◌, ◌⊎◌, All, Bool, Contains, IfSome, IsTrue, List, None, Option, Result, Some, codes, if◌then◌else◌, length, map, option_map, unwrap_or, ℕ, ⊤}
use Rattle.lockdep.specs.Names.{Appends, AppendsBeginning, AreRefused, AskForText, Chains, Check, Condense, Event, Explain, Format, GRAPH_KEYS, Graph, IsClean, IsCrew, IsFirstFault, IsLineOf, IsWellFormed, Keeps, KeysBelow, Line, MAX_KEYS, MAX_TRACES, Name, ReadsTo, Schedule, StopsAt, Text, TracesHave, chains_text, file_at}
use Rattle.ld_schedule.specs.NamedHistories.{IsRefusedAs}
use Rattle.lockdep.specs.Faults.{StopsText}
use Rattle.lockdep.specs.Texts.{OutputView, report, explanation, json, picture, condensed, IsTextOf}
use Rattle.ld_text.specs.declared.findings.Format.TheVariants as format
use Rattle.lockdep.specs.Verdicts.{StopsVerdicts, WritesVerdicts}
use Rattle.lockdep.specs.declared.fault.ReportFault.{ReportFault}
use Rattle.lockdep.specs.declared.fault.ReportFault.TheVariants as failed
use Rattle.lockdep.specs.Names.{WriteFault}
use Rattle.ld_text.specs.declared.write_fault.WriteFault.TheVariants as write
use Rattle.lockdep.specs.declared.refusal.Refusal.{Refusal}
use Rattle.lockdep.specs.declared.refusal.Refusal.TheVariants.{BadCommandLine, CannotOpen, Output, Memory, Reading, Step, History, Run, Condensing}

-- What is asked for.

-- an output of the traces in these files together, or of the one on standard input if there are none; with this number
-- of workers, and with room for many keys if that is set
pub record OutputOf : Type 0 where
  pub output : OutputView
  pub many : Bool
  pub workers : ℕ
  pub files : List Text

-- the findings between types of these traces, each with what it was seen between, in this format, where all of them count or only
-- what was seen between single locks
pub record VerdictsOf : Type 0 where
  pub format : Format
  pub confirmed_only : Bool
  pub workers : ℕ
  pub files : List Text

-- what is said of the histories in these files, or of the one on standard input if there are none
pub record SchedulesOf : Type 0 where
  pub as_json : Bool
  pub files : List Text

-- one of these, or the chains of the trace in this file, or on standard input if there is none
pub data Asked : Type 0 where
  output_of : OutputOf → Asked
  verdicts_of : VerdictsOf → Asked
  schedules_of : SchedulesOf → Asked
  chains_of : Option Text → Asked

-- how an explanation is written: as JSON, if that is asked for
abbrev pub explanation_as : (as_json : Bool) → (files : List Text) → OutputView
explanation_as as_json files = if as_json then json files else explanation files

abbrev pub format_as : (as_json : Bool) → Format
format_as as_json = if as_json then format.Json else format.Lines

-- an explanation, or if it is asked what findings were seen between, verdicts
abbrev pub explanation_asked : (many as_json is_between confirmed_only : Bool) (workers : ℕ) (files : List Text) → Asked
explanation_asked many as_json is_between confirmed_only workers files = if is_between
    then verdicts_of (record { format = format_as as_json; confirmed_only = confirmed_only; workers = workers; files = files })
    else output_of (record { output = explanation_as as_json files; many = many; workers = workers; files = files })

-- what a line asks for
abbrev pub asked_by : Line → Asked
asked_by (Check workers many files) = let named = map (λ file. file.now) files.items in
    output_of (record { output = report; many = many; workers = workers; files = named })
asked_by (Explain workers many as_json locks confirmed_only files) =
    explanation_asked many as_json (locks || confirmed_only) confirmed_only workers (map (λ file. file.now) files.items)
asked_by (Graph workers many findings files) = let named = map (λ file. file.now) files.items in
    output_of (record { output = picture findings; many = many; workers = workers; files = named })
asked_by (Condense workers many files) = let named = map (λ file. file.now) files.items in
    output_of (record { output = condensed; many = many; workers = workers; files = named })
asked_by (Schedule as_json files) = schedules_of (record { as_json = as_json; files = map (λ file. file.now) files.items })
asked_by (Chains file) = chains_of (option_map (λ word. word.now) file)

-- What is done.

-- how many keys there is room for
abbrev pub room_of : (many : Bool) → ℕ
room_of many = if many then MAX_KEYS else GRAPH_KEYS

-- the status after an output was written: 1 if the facts aren't clean, and 0 otherwise and after a condensed trace
abbrev pub status_of : OutputView → (clean : Bool) → ℕ
status_of condensed clean = 0
status_of output clean = if clean then 0 else 1

-- these are the traces that were read, with room for this number of keys: one of each file, or the one that standard
-- input holds. About the traces of files only their number is said, and that their keys are in the table; no contract
-- can say what a file holds
pub record AreTracesOf (room : ℕ) (files : List Text) (input : Option (List ℕ)) (names : List Name) (traces : List (List Event)) : Type 0 where
  pub below : All (KeysBelow (length names)) traces
  pub from_input : length files ≡ 0 → (trace : List Event) × (traces ≡ trace ∷ []) × IfSome input (λ bytes. ReadsTo room [] bytes names trace)
  pub from_files : 0 < length files → length traces ≡ length files

-- the output of the traces was written, with this number of workers, and the status is the one for their facts
pub record WritesText (output : OutputView) (workers : ℕ) (names : List Name) (traces : List (List Event)) (old new : Option (List ℕ)) (status : ℕ) : Type 0 where
  pub crew : IsCrew workers
  pub few : length traces ≤ MAX_TRACES
  pub well_formed : All IsWellFormed traces
  pub text : List ℕ
  pub is_text : IsTextOf output traces names text
  pub wrote : Appends old new text
  pub clean : Bool
  pub clean_is : IsTrue clean ↔ IsClean (TracesHave traces)
  pub status_is : status ≡ status_of output clean

-- the same, of the traces of the files
pub record WritesOutput (asked : OutputOf) (input old new : Option (List ℕ)) (status : ℕ) : Type 0 where
  pub names : List Name
  pub traces : List (List Event)
  pub read : AreTracesOf (room_of asked.many) asked.files input names traces
  pub writes : WritesText asked.output asked.workers names traces old new status

-- the verdicts of the traces of the files were written, with room for many keys; the status is 1 if one of them counts
pub record DoesVerdicts (asked : VerdictsOf) (input old new : Option (List ℕ)) (status : ℕ) : Type 0 where
  pub names : List Name
  pub traces : List (List Event)
  pub read : AreTracesOf MAX_KEYS asked.files input names traces
  pub crew : IsCrew asked.workers
  pub few : length traces ≤ MAX_TRACES
  pub well_formed : All IsWellFormed traces
  pub found : Bool
  pub writes : WritesVerdicts asked.format asked.confirmed_only asked.files names traces old new found
  pub status_is : status ≡ (if found then 1 else 0)

-- what is known of the bytes of a trace: those that standard input holds, and nothing about a file's
abbrev pub known_of : Option Text → (input : Option (List ℕ)) → Option (List ℕ)
known_of None input = input
known_of (Some file) input = None

-- this trace was read from these bytes
pub record IsTraceOf (bytes : Option (List ℕ)) (names : List Name) (trace : List Event) : Type 0 where
  pub below : KeysBelow (length names) trace
  pub reads : IfSome bytes (λ known. ReadsTo GRAPH_KEYS [] known names trace)

-- the chains of the trace were written
pub record WritesChains (bytes old new : Option (List ℕ)) (status : ℕ) : Type 0 where
  pub names : List Name
  pub trace : List Event
  pub read : IsTraceOf bytes names trace
  pub well_formed : IsWellFormed trace
  pub wrote : Appends old new (chains_text names trace)
  pub done : status ≡ 0

-- some text was written whole
abbrev pub IsTextWritten : (old new : Option (List ℕ)) → Type 0
IsTextWritten old new = (text : List ℕ) × Appends old new text

-- what is said of the histories was written. What the text says, and that the status is 1 exactly if tasks stand still at a
-- ring that it tells, isn't said here
abbrev pub WritesSchedules : SchedulesOf → (input old new : Option (List ℕ)) → ℕ → Type 0
WritesSchedules asked input old new status = (status ≤ 1) × IsTextWritten old new

-- what was asked for was done
abbrev pub DoesAsked : Asked → (input old new : Option (List ℕ)) → ℕ → Type 0
DoesAsked (output_of asked) input = WritesOutput asked input
DoesAsked (verdicts_of asked) input = DoesVerdicts asked input
DoesAsked (schedules_of asked) input = WritesSchedules asked input
DoesAsked (chains_of file) input = WritesChains (known_of file input)

-- what the line asks for was done
abbrev pub DoesLine : Line → (input old new : Option (List ℕ)) → ℕ → Type 0
DoesLine line = DoesAsked (asked_by line)

-- help or the version was asked for and written
pub record WritesHelp (words : List Text) (old new : Option (List ℕ)) (status : ℕ) : Type 0 where
  pub asked : AskForText words
  pub text : List ℕ
  pub wrote : Appends old new text
  pub done : status ≡ 0

-- the program did what the words ask for
abbrev pub DoesWords : List Text → (input old new : Option (List ℕ)) → ℕ → Type 0
DoesWords words input old new status =
    ((line : Line) × IsLineOf words line × DoesLine line input old new status) ⊎ WritesHelp words old new status

-- What is refused, and what is left on standard output.

-- the trace with these bytes is refused while it is read, with room for this number of names, of which these were there
-- before
abbrev pub IsReadingRefusal : (file : Text) (room : ℕ) (names : List Name) (bytes : Option (List ℕ)) → Refusal → Type 0
IsReadingRefusal file room names bytes (Reading named fault) =
    (named.now ≡ file) × IfSome bytes (λ known. (new : List Name) × StopsAt room names known new fault)
IsReadingRefusal file room names bytes _ = ⊥

-- the trace isn't well formed: its first fault, with the record of the event, counted from 1 with the header
abbrev pub IsStepRefusal : (file : Text) (trace : List Event) → Refusal → Type 0
IsStepRefusal file trace (Step named at fault) = (named.now ≡ file)
    × ((place : ℕ) × (at ≡ place + 2) × IsFirstFault trace (record { fault = fault; place = place }))
IsStepRefusal file trace _ = ⊥

-- the traces of these files weren't all read, with room for this number of keys: one can't be opened or is refused
-- while it is read, or memory ran out before
abbrev pub StopsReading : (room : ℕ) → List Text → (input : Option (List ℕ)) → Refusal → Type 0
StopsReading room files input (CannotOpen named) = Contains files named.now
StopsReading room files input (Reading named fault) = Contains files named.now
    ⊎ ((files ≡ []) × IsReadingRefusal (codes "stdin") room [] input (Reading named fault))
StopsReading room files input Memory = ⊤
StopsReading room files input _ = ⊥

-- the refusal of an output that wasn't written whole
abbrev pub write_refusal_of : WriteFault → Refusal
write_refusal_of write.Failed = Output
write_refusal_of write.Stuck = Output
write_refusal_of write.Memory = Memory

-- the refusal for the traces of these files, if their output wasn't written whole
abbrev pub IsReportRefusal : List Text → ReportFault → Refusal → Type 0
IsReportRefusal files (failed.Step trace at fault) (Step named named_at named_fault) =
    (named.now ≡ file_at files trace) × (named_at ≡ at) × (named_fault ≡ fault)
IsReportRefusal files (failed.Step trace at fault) _ = ⊥
IsReportRefusal files (failed.Run fault) refusal = refusal ≡ Run fault
IsReportRefusal files (failed.Condensing fault) refusal = refusal ≡ Condensing fault
IsReportRefusal files (failed.Out fault) refusal = refusal ≡ write_refusal_of fault

-- these traces of the files have no such output, or it wasn't written whole
pub record RefusesTraces (output : OutputView) (workers : ℕ) (files : List Text) (names : List Name) (traces : List (List Event)) (old new : Option (List ℕ)) (refusal : Refusal) : Type 0 where
  pub fault : ReportFault
  pub stops : StopsText output traces names workers old new fault
  pub refusal_is : IsReportRefusal files fault refusal

-- no such output was written whole: it was refused while the traces were read, and then nothing was written, or after
-- that
abbrev pub RefusesOutput : OutputOf → (input old new : Option (List ℕ)) → Refusal → Type 0
RefusesOutput asked input old new refusal = (StopsReading (room_of asked.many) asked.files input refusal × Keeps old new)
    ⊎ ((names : List Name) × (traces : List (List Event)) × AreTracesOf (room_of asked.many) asked.files input names traces
    × RefusesTraces asked.output asked.workers asked.files names traces old new refusal)

-- these traces of the files have no verdicts, or they weren't written whole
pub record RefusesVerdictsOf (asked : VerdictsOf) (names : List Name) (traces : List (List Event)) (old new : Option (List ℕ)) (refusal : Refusal) : Type 0 where
  pub fault : ReportFault
  pub stops : StopsVerdicts asked.format asked.files names traces asked.workers old new fault
  pub refusal_is : IsReportRefusal asked.files fault refusal

-- no verdicts were written whole: it was refused while the traces were read, and then nothing was written, or after that
abbrev pub RefusesVerdicts : VerdictsOf → (input old new : Option (List ℕ)) → Refusal → Type 0
RefusesVerdicts asked input old new refusal = (StopsReading MAX_KEYS asked.files input refusal × Keeps old new)
    ⊎ ((names : List Name) × (traces : List (List Event)) × AreTracesOf MAX_KEYS asked.files input names traces
    × RefusesVerdictsOf asked names traces old new refusal)

-- the trace isn't well formed, or its chains weren't written whole
abbrev pub RefusesTrace : (file : Text) → List Name → List Event → (old new : Option (List ℕ)) → Refusal → Type 0
RefusesTrace file names trace old new refusal = (IsStepRefusal file trace refusal × Keeps old new)
    ⊎ (IsWellFormed trace × (refusal ≡ Output) × AppendsBeginning old new (chains_text names trace))

-- no chains were written whole: memory ran out before, or the trace was refused while it was read, or after that
abbrev pub RefusesOpened : (file : Text) → (bytes old new : Option (List ℕ)) → Refusal → Type 0
RefusesOpened file bytes old new refusal =
    (((refusal ≡ Memory) ⊎ IsReadingRefusal file GRAPH_KEYS [] bytes refusal) × Keeps old new)
    ⊎ ((names : List Name) × (trace : List Event) × IsTraceOf bytes names trace
    × RefusesTrace file names trace old new refusal)

-- the same, or the file can't be opened
abbrev pub RefusesChains : Option Text → (input old new : Option (List ℕ)) → Refusal → Type 0
RefusesChains file input old new (CannotOpen named) = (file ≡ Some named.now) × Keeps old new
RefusesChains file input old new refusal =
    RefusesOpened (unwrap_or file (codes "stdin")) (known_of file input) old new refusal

-- the text that was asked for wasn't written whole
abbrev pub RefusesHelp : (old new : Option (List ℕ)) → Refusal → Type 0
RefusesHelp old new refusal =
    ((refusal ≡ Memory) × Keeps old new) ⊎ ((refusal ≡ Output) × ((text : List ℕ) × AppendsBeginning old new text))

-- the history with these bytes is refused, or memory was
abbrev pub IsRefusalOfHistory : (file : Text) (bytes : Option (List ℕ)) → Refusal → Type 0
IsRefusalOfHistory file bytes (History named refusal) = (named.now ≡ file) × IsRefusedAs bytes refusal
IsRefusalOfHistory file bytes Memory = ⊤
IsRefusalOfHistory file bytes _ = ⊥

-- a file can't be opened, or its history is refused, or memory was
abbrev pub IsRefusalOfFiles : Refusal → Type 0
IsRefusalOfFiles (CannotOpen named) = ⊤
IsRefusalOfFiles (History named refusal) = ⊤
IsRefusalOfFiles Memory = ⊤
IsRefusalOfFiles _ = ⊥

-- the histories weren't all read: a file can't be opened, a history is refused, which is that of standard input if there are
-- no files, or memory was
abbrev pub IsHistoryRefusal : List Text → (input : Option (List ℕ)) → Refusal → Type 0
IsHistoryRefusal files input (CannotOpen named) = 0 < length files
IsHistoryRefusal files input (History named refusal) =
    length files ≡ 0 → (named.now ≡ codes "stdin") × IsRefusedAs input refusal
IsHistoryRefusal files input Memory = ⊤
IsHistoryRefusal files input _ = ⊥

-- nothing was written, since the histories weren't all read, or the text wasn't written whole
abbrev pub RefusesSchedules : SchedulesOf → (input old new : Option (List ℕ)) → Refusal → Type 0
RefusesSchedules asked input old new refusal =
    (IsHistoryRefusal asked.files input refusal × Keeps old new) ⊎ RefusesHelp old new refusal

-- what was asked for is refused in this way
abbrev pub RefusesAsked : Asked → (input old new : Option (List ℕ)) → Refusal → Type 0
RefusesAsked (output_of asked) = RefusesOutput asked
RefusesAsked (verdicts_of asked) = RefusesVerdicts asked
RefusesAsked (schedules_of asked) = RefusesSchedules asked
RefusesAsked (chains_of file) = RefusesChains file

-- what the line asks for is refused in this way
abbrev pub RefusesLine : Line → (input old new : Option (List ℕ)) → Refusal → Type 0
RefusesLine line = RefusesAsked (asked_by line)

-- the words are refused by clap's definition, or memory was, or they ask for a text that wasn't written whole
abbrev pub RefusesNoLine : List Text → (old new : Option (List ℕ)) → Refusal → Type 0
RefusesNoLine words old new refusal =
    ((((refusal ≡ BadCommandLine) × AreRefused words) ⊎ (refusal ≡ Memory)) × Keeps old new)
    ⊎ (AskForText words × RefusesHelp old new refusal)

-- what the words ask for is refused in this way
abbrev pub RefusesWords : List Text → (input old new : Option (List ℕ)) → Refusal → Type 0
RefusesWords words input old new refusal =
    ((line : Line) × IsLineOf words line × RefusesLine line input old new refusal) ⊎ RefusesNoLine words old new refusal

-- the refusal was told in some way of these ways in which telling it may end
abbrev pub WasTold : (Tells : Refusal → Result ℕ WriteFault → Type 0) → Refusal → Type 0
WasTold Tells refusal = (ended : Result ℕ WriteFault) × Tells refusal ended

-- the program ran with these words and this input, from and to what standard output holds: it did what the words ask for, with status 0
-- or 1; or it refused, with status 2, and told the refusal
pub record IsRunOf (words : List Text) (input old_out new_out : Option (List ℕ)) (Tells : Refusal → Result ℕ WriteFault → Type 0) (status : ℕ) : Type 0 where
  pub few : status ≤ 2
  pub done : status < 2 → DoesWords words input old_out new_out status
  pub refused : status ≡ 2 → (refusal : Refusal) × RefusesWords words input old_out new_out refusal × WasTold Tells refusal
