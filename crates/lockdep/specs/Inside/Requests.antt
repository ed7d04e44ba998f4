-- What a request asks for, with the names of the files as texts. No public clause speaks of these.
use Rattle.std.specs.Prelude.{map, option_map}
use Rattle.lockdep.specs.Program.{Asked, OutputOf, SchedulesOf, VerdictsOf, chains_of, output_of, schedules_of, verdicts_of}
use Rattle.lockdep.specs.Texts.{view_of}
use Rattle.lockdep.specs.declared.request.OutputRequest.{OutputRequest}
use Rattle.lockdep.specs.declared.request.Request.{Request}
use Rattle.lockdep.specs.declared.request.Request.TheVariants.{Output, Verdicts, Schedules, Chains}
use Rattle.lockdep.specs.declared.request.ScheduleRequest.{ScheduleRequest}
use Rattle.lockdep.specs.declared.request.VerdictRequest.{VerdictRequest}

-- an output with its many, workers and files
abbrev pub output_asked : OutputRequest → OutputOf
output_asked r = record {
  output = view_of r.output;
  many = r.many;
  workers = r.workers;
  files = map (λ file. file.now) r.files.now;
}

-- verdicts with their workers and files
abbrev pub verdicts_asked : VerdictRequest → VerdictsOf
verdicts_asked r = record {
  format = r.format;
  confirmed_only = r.confirmed_only;
  workers = r.workers;
  files = map (λ file. file.now) r.files.now;
}

-- histories with their files, and whether JSON is wanted
abbrev pub schedules_asked : ScheduleRequest → SchedulesOf
schedules_asked r = record { as_json = r.json; files = map (λ file. file.now) r.files.now }

-- one of these, or chains
abbrev pub asked_of : Request → Asked
asked_of (Output r) = output_of (output_asked r)
asked_of (Verdicts r) = verdicts_of (verdicts_asked r)
asked_of (Schedules r) = schedules_of (schedules_asked r)
asked_of (Chains file) = chains_of (option_map (λ word. word.now) file)
