use Rattle.std.proofs.Common.{◌+◌, ◌-◌, ◌≤◌, List, Option, ℕ}
use Rattle.ld_trace.specs.Inside.Progress.{ReadsPlain}
use Rattle.ld_schedule.specs.declared.limits.TheConstants.{MAX_RECORDS}
use Rattle.ld_schedule.specs.Inside.Progress.{HasTaken}
use Rattle.ld_schedule.proofs.drafting.take_records.Given as goal

abbrev pub invariant-records : goal.invariant-records
invariant-records g l = record {
  plain : ReadsPlain l.source;
  few : l.count ≤ MAX_RECORDS;
  taken : (known : Option (List ℕ)) → HasTaken g.R.Read.remaining known l.fn.source 0 l.fn.draft → HasTaken g.R.Read.remaining known l.source l.count l.draft;
}

abbrev pub decreases-records : goal.decreases-records
decreases-records g l = MAX_RECORDS + 1 - l.count
