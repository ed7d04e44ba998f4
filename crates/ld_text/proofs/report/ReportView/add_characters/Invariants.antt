use Rattle.ld_text.proofs.Names.{GrowsBy, HasFact, InTurn, IsUsageCharacter, string_bytes, take}
use Rattle.ld_text.proofs.report.ReportView.add_characters.Given as goal

-- the characters so far
abbrev pub invariant-loop-form : goal.invariant-loop-form
invariant-loop-form l =
    GrowsBy (InTurn (λ form. IsUsageCharacter (HasFact l.self.settled.now) l.key form.0 form.1) (take l.form-index l.form-items))
    (string_bytes l.initial.text) (string_bytes l.text)
