-- Words of this crate that its clauses cite: each brought in once.
pub use Rattle.lockdep.specs.Condensed.{IsCondensedText, ReadsBackAnew}
pub use Rattle.lockdep.specs.FaultLines.{fault_line, record_line}
pub use Rattle.lockdep.specs.Faults.{IsBeforeWriting, StopsReport, StopsSettled, StopsText}
pub use Rattle.lockdep.specs.Inside.CondensedFaults.{no_text_of}
pub use Rattle.lockdep.specs.Inside.Requests.{asked_of, output_asked, schedules_asked, verdicts_asked}
pub use Rattle.lockdep.specs.Inside.Sources.{NamesFileAt, remaining_in}
pub use Rattle.lockdep.specs.Inside.Tangled.{fault_of_parting}
pub use Rattle.lockdep.specs.Program.{AreTracesOf, DoesLine, DoesVerdicts, DoesWords, IsHistoryRefusal, IsReadingRefusal, IsRefusalOfFiles, IsRefusalOfHistory, IsTextWritten, IsReportRefusal, IsRunOf, IsStepRefusal, RefusesChains, RefusesHelp, RefusesLine, RefusesNoLine, RefusesOpened, RefusesOutput, RefusesSchedules, RefusesTrace, RefusesTraces, RefusesVerdicts, RefusesVerdictsOf, RefusesWords, StopsReading, WasTold, WritesChains, WritesHelp, WritesOutput, WritesSchedules, WritesText, asked_by, explanation_as, explanation_asked, format_as, known_of, output_of, room_of, schedules_of, status_of, verdicts_of, write_refusal_of}
pub use Rattle.lockdep.specs.Texts.{IsTextOf, OutputView, condensed, view_of}
pub use Rattle.lockdep.specs.Verdicts.{IsTextOfVerdicts, SaysVerdicts, StopsVerdicts, WritesVerdicts}
pub use Rattle.lockdep.specs.declared.refusal.Refusal.{Refusal}
