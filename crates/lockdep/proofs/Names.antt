-- Words that the proofs of this crate use, each brought in once.
pub use Rattle.std.proofs.Common.{◌==◌, ◌∙◌, Bor, IsErr, IsErrAnd, MatchResult, ap, arith, inl, inr, length-append, refl, slice_index_or, subst, suc, sum_by, sym, take, true, zero}
pub use Rattle.std.proofs.KnownBytes.{Keeps-refl}
pub use Rattle.std.proofs.lemmas.List.{append-nil, length-map}
pub use Rattle.std.proofs.lemmas.Result.{IfErr-weaker, IfOk-from_err, IfOk-weaker}
pub use Rattle.ld_explain.specs.Settling.{names_at}
pub use Rattle.ld_text.specs.Explanation.{Sources, sources_of}
pub use Rattle.ld_text.specs.Findings.{SaysFindings}
pub use Rattle.ld_text.specs.Laws.Findings.{SaysFindings-same}
pub use Rattle.ld_text.specs.Laws.Picture.{IsPicture-same}
pub use Rattle.ld_text.specs.Laws.Report.{IsReport-same, clean_is-same}
pub use Rattle.ld_text.specs.Laws.WriteFaults.{StopsWriting-same}
pub use Rattle.ld_text.specs.Picture.{IsPicture}
pub use Rattle.ld_text.specs.Report.{IsReport}
pub use Rattle.ld_trace.specs.Classes.{name_by}
pub use Rattle.ld_trace.specs.Laws.{NewTablesHaveRoom, TextsReadBack}
pub use Rattle.ld_trace.specs.Names.{AreNumbered, Table, is_known, with_name}
pub use Rattle.ld_trace.specs.TakingIn.{with_all}
pub use Rattle.ld_trace.specs.declared.level.Level.{Level}
pub use Rattle.lockdep.specs.Clauses.{IsBeforeWriting, IsCondensedText, IsReadingRefusal, IsTextOf, OutputView, ReadsBackAnew, Refusal, StopsReading, StopsSettled, StopsText, asked_by, asked_of, condensed, fault_of_parting, no_text_of, view_of}
pub use Rattle.lockdep.specs.Condensed.{IsCondensedOf}
pub use Rattle.lockdep.specs.Names.{[], ◌++◌, ◌+◌, ◌<◌, ◌↔◌, ◌∷◌, ◌≡◌, ◌≤◌, All, Appends, AppendsBeginning, AreSame, Bool, CondenseFault, Contains, Err, Event, Fact, FactParts, GRAPH_KEYS, HasFact, IfErr, IfOk, IsClean, IsCondensed, IsCrew, IsErrOf, IsOkAnd, IsTrue, IsWellFormed, KeysBelow, Line, List, MAX_EVENTS, MAX_TRACES, Name, None, Ok, OnOk, Option, PartingFault, Result, Some, StopsRun, StopsWriting, Text, TooLong, TracesHave, Types, WriteFault, codes, events_enough, false, if◌then◌else◌, length, map, slice_get, string_bytes, trace_text, ℕ, ⊤}
pub use Rattle.lockdep.specs.Verdicts.{StopsLevels}
pub use Rattle.lockdep.specs.Program.{Asked, DoesAsked, RefusesAsked}
pub use Rattle.lockdep.specs.Sessions.{SessionParts}
pub use Rattle.lockdep.specs.Texts.{explanation, json, picture, report}
pub use Rattle.lockdep.specs.declared.fault.ReportFault.{ReportFault}
pub use Rattle.lockdep.specs.declared.fault.ReportFault.TheVariants.{Condensing, Out, Run, Step}
pub use Rattle.lockdep.specs.declared.refusal.Refusal.TheVariants.{BadCommandLine, CannotOpen, Memory, Output, Reading}
