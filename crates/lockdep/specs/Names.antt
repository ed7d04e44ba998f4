-- Words of the crates below, and of std, that the clauses and definitions of this crate cite: each brought in once.
pub use Rattle.std.specs.Io.KnownBytes.{Appends, Keeps}
pub use Rattle.std.specs.Prelude.{[], ◌++◌, ◌+◌, ◌<◌, ◌||◌, ◌↔◌, ◌∷◌, ◌≡◌, ◌≤◌, ◌⊎◌, All, Bool, Contains, Err, IfErr, IfOk, IfSome, IsErrOf, IsOkAnd, IsSomeAnd, IsTrue, List, None, Ok, OnErr, OnOk, Option, Result, Some, codes, decimal, false, if◌then◌else◌, length, map, option_map, slice_get, string_bytes, unwrap_or, ℕ, ⊤}
pub use Rattle.ld_explain.specs.Settling.{AreLevels, AreTypes, names_at}
pub use Rattle.ld_explain.specs.Verdicts.{has_finding}
pub use Rattle.ld_explain.specs.Whereabouts.{AreWhereabouts}
pub use Rattle.ld_explain.specs.declared.verdict.Verdict.{Verdict}
pub use Rattle.ld_explain.specs.declared.whereabouts.Whereabouts.{Whereabouts}
pub use Rattle.ld_facts.specs.FactBits.{FactParts, HasFact}
pub use Rattle.ld_facts.specs.Facts.{AreSame}
pub use Rattle.ld_facts.specs.TraceFacts.{TracesHave}
pub use Rattle.ld_facts.specs.declared.fact.Fact.{Fact}
pub use Rattle.ld_graph.specs.Links.{IsClean}
pub use Rattle.ld_parts.specs.declared.parting_fault.PartingFault.{PartingFault}
pub use Rattle.ld_read.specs.Reading.{AreRead, StopsAfter}
pub use Rattle.ld_run.specs.Condensing.{IsCondensed, events_enough}
pub use Rattle.ld_run.specs.Faults.{condense_code_of, run_code_of}
pub use Rattle.ld_run.specs.Runs.{CompletesRun, IsCrew, StopsRun}
pub use Rattle.ld_run.specs.declared.condense_fault.CondenseFault.{CondenseFault}
pub use Rattle.ld_run.specs.declared.condense_fault.CondenseFault.TheVariants.{TooLong}
pub use Rattle.ld_run.specs.declared.fault.RunFault.{RunFault}
pub use Rattle.ld_run.specs.declared.fault.RunFault.TheVariants.{Refused, TooTangled, Unsettled}
pub use Rattle.ld_task.specs.WellFormed.{IsFirstFault, IsWellFormed}
pub use Rattle.ld_text.specs.ChainLines.{chains_text}
pub use Rattle.ld_text.specs.Findings.{SaysFindingsOf}
pub use Rattle.ld_text.specs.Output.{AppendsBeginning}
pub use Rattle.ld_text.specs.Picture.{IsPictureOf}
pub use Rattle.ld_text.specs.Report.{IsReportOf}
pub use Rattle.ld_text.specs.Verdicts.{AreVerdictsOf, KeepsCircles, lock_sources, type_sources, verdict_json, verdicts_text}
pub use Rattle.ld_text.specs.Words.{Text, file_at}
pub use Rattle.ld_text.specs.WriteFaults.{StopsWriting}
pub use Rattle.ld_text.specs.declared.findings.Format.{Format}
pub use Rattle.ld_text.specs.declared.write_fault.WriteFault.{WriteFault}
pub use Rattle.ld_text.specs.declared.write_fault.WriteFault.TheVariants.{Memory}
pub use Rattle.ld_trace.specs.Events.{KeysBelow}
pub use Rattle.ld_trace.specs.Laws.{ReadsBack}
pub use Rattle.ld_trace.specs.Names.{Name}
pub use Rattle.ld_trace.specs.Reading.{ReadsTo, StopsAt}
pub use Rattle.ld_trace.specs.Writing.{trace_text}
pub use Rattle.ld_trace.specs.declared.event.Event.{Event}
pub use Rattle.ld_trace.specs.declared.key_id.TheConstants.{GRAPH_KEYS, MAX_KEYS}
pub use Rattle.ld_trace.specs.Classes.{numbers_at}
pub use Rattle.ld_trace.specs.declared.level.Level.TheVariants.{Types}
pub use Rattle.ld_trace.specs.declared.raw_trace.TheConstants.{MAX_EVENTS, MAX_TRACES}
pub use Rattle.ld_words.specs.CommandLine.{AreRefused, AskForText, IsLineFault, IsLineOf}
pub use Rattle.ld_words.specs.declared.words.Line.{Line}
pub use Rattle.ld_words.specs.declared.words.Line.TheVariants.{Chains, Check, Condense, Explain, Graph, Schedule}
