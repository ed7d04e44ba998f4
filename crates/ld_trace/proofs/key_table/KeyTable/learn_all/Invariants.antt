use Rattle.std.specs.Prelude.{◌≡◌, []}
use Rattle.csv.specs.Writing.{writer_pending}
use Rattle.ld_trace.specs.Inside.Written.{IsBetween}
use Rattle.ld_trace.proofs.key_table.KeyTable.learn_all.Given as goal

abbrev pub invariant-loop-event : goal.invariant-loop-event
invariant-loop-event l = (l.self ≡ l.fn.self) × IsBetween l.rows × (writer_pending l.rows ≡ [])
