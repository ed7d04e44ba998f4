use Rattle.lockdep.proofs.Names.{◌+◌, ◌≡◌, All, KeysBelow, length}
use Rattle.lockdep.proofs.trace_files.add_in_turn.Given as goal

-- one trace of each file so far, and the keys of all are in the table
abbrev pub invariant-loop-file : goal.invariant-loop-file
invariant-loop-file g l = record {
  count : length l.session.traces ≡ length l.initial.session.traces + l.file-index;
  below : All (KeysBelow (length l.session.names)) l.session.traces;
}
