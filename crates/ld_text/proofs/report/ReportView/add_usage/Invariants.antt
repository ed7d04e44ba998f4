use Rattle.ld_text.proofs.Names.{GrowsBy, HasFact, InTurn, IsUsageLine, string_bytes, take}
use Rattle.ld_text.proofs.report.ReportView.add_usage.Given as goal

-- the lines of the keys so far
abbrev pub invariant-loop-key : goal.invariant-loop-key
invariant-loop-key l =
    GrowsBy (InTurn (IsUsageLine (HasFact l.self.settled.now) l.self.names.now.names) (take l.key-index l.key-items))
    (string_bytes l.initial.text) (string_bytes l.text)
