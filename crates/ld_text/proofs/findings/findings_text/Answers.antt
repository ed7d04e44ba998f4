use Rattle.ld_text.proofs.findings.findings_text.Goals as goal

pub findings_of-requires-clause-facts : goal.findings_of-requires-clause-facts
findings_of-requires-clause-facts c x =
    let law = c.own_names_change_nothing.ensures c.args.traces.now x in
    let facts = c.requires.facts x in (
      (λ h. law.1 (facts.0 h)),
      (λ h. facts.1 (law.0 h)),
    )
